-- Whether two events of a session or of a group are the same is decided, and so it is of applications.
use Rattle.std.proofs.Common.{◌≡◌, ◌⊎◌, ℕ, zero, suc, Bool, true, false, List, refl, sym, ap, ◌∙◌, inl, inr}
use Rattle.std.proofs.Math.Bool.{Bool-discrete}
use Rattle.std.proofs.Math.Decide.{ℕ_discrete}
use mathlib.Core.HLevel.{×_discrete as both}
use mathlib.Core.List.{List-discrete as each}
use mathlib.Core.Sum.{discrete as either}
use Rattle.group_model.specs.declared.group_event.GroupEvent.{GroupEvent}
use Rattle.group_model.specs.declared.group_event.GroupEvent.TheVariants as group
use Rattle.kernel_model.specs.Application.{Application, OfImage, BuiltIn}
use Rattle.native_tas.specs.declared.relation.Relation.{Relation}
use Rattle.native_tas.specs.declared.relation.Relation.TheVariants.{Digest, Fixed}
use Rattle.own_model.specs.declared.own_event.BackInput.{BackInput}
use Rattle.own_model.specs.declared.own_event.BackInput.TheVariants.{Nothing, Buffer, NoBuffer, Reply}
use Rattle.own_model.specs.declared.own_event.OwnEvent.{OwnEvent}
use Rattle.own_model.specs.declared.own_event.OwnEvent.TheVariants.{Open, Invoke, Close, Cancel, Seen, Back, Out, Limited}
use Rattle.own_model.specs.declared.own_event.OwnInput.{OwnInput}
use Rattle.own_model.specs.declared.own_event.OwnInput.TheVariants.{Copied, Faulty, Unread}
use Rattle.rpc_msgs.specs.declared.rpc.RpcReply.{RpcReply}
use Rattle.ta_isa.specs.declared.image.Image.{Image}
use Rattle.ta_isa.specs.declared.image.Instr.{Instr}
use Rattle.ta_params.specs.declared.copied_params.CopiedParams.{CopiedParams}
use Rattle.ta_params.specs.declared.copied_params.GpParam.{GpParam}
use Rattle.ta_params.specs.declared.copied_params.GpParam.TheVariants.{Empty, Value, Memref}
use Rattle.ta_params.specs.declared.copied_params.Way.{Way}
use Rattle.ta_params.specs.declared.copied_params.Way.TheVariants.{In, Out as OutWay, Inout}
use Rattle.ta_params.specs.declared.login.Login.{Login}

-- it is decided by what stands for each, which leads back to it
of_code : {A B : Type 0} (code : A → B) (decoded : B → A) → ((x : A) → decoded (code x) ≡ x) → Discrete B → Discrete A
of_code code decoded back discrete x y = by_codes (discrete (code x) (code y))
  where
    by_codes : Dec (code x ≡ code y) → Dec (x ≡ y)
    by_codes (yes same) = yes (sym (back x) ∙ ap decoded same ∙ back y)
    by_codes (no differ) = no (λ same. differ (ap code same))

unit_discrete : Discrete (Unit {0})
unit_discrete x y = yes refl

bytes_discrete : Discrete (List ℕ)
bytes_discrete = each ℕ_discrete

-- ---- parameters

abbrev way_code : Way → ℕ
way_code In = 0
way_code OutWay = 1
way_code Inout = 2

abbrev way_of : ℕ → Way
way_of zero = In
way_of (suc zero) = OutWay
way_of (suc (suc more)) = Inout

way_back : (way : Way) → way_of (way_code way) ≡ way
way_back In = refl
way_back OutWay = refl
way_back Inout = refl

way_discrete : Discrete Way
way_discrete = of_code way_code way_of way_back ℕ_discrete

abbrev ParamCode : Type 0
ParamCode = Unit {0} ⊎ (Way × (ℕ × ℕ)) ⊎ (Way × (List ℕ × ℕ))

abbrev param_code : GpParam → ParamCode
param_code Empty = inl tt
param_code (Value way a b) = inr (inl (way, (a, b)))
param_code (Memref way buf size) = inr (inr (way, (buf, size)))

abbrev param_of : ParamCode → GpParam
param_of (inl nothing) = Empty
param_of (inr (inl (way, (a, b)))) = Value way a b
param_of (inr (inr (way, (buf, size)))) = Memref way buf size

param_back : (param : GpParam) → param_of (param_code param) ≡ param
param_back Empty = refl
param_back (Value way a b) = refl
param_back (Memref way buf size) = refl

param_discrete : Discrete GpParam
param_discrete =
    of_code param_code param_of param_back
    (either unit_discrete (either (both way_discrete (both ℕ_discrete ℕ_discrete)) (both way_discrete (both bytes_discrete ℕ_discrete))))

params_discrete : Discrete CopiedParams
params_discrete =
    of_code (λ (params : CopiedParams). ((params.p0, params.p1), (params.p2, params.p3)))
    (λ (four : (GpParam × GpParam) × (GpParam × GpParam)). record { p0 = four.0.0; p1 = four.0.1; p2 = four.1.0; p3 = four.1.1 })
    (λ params. refl) (both (both param_discrete param_discrete) (both param_discrete param_discrete))

login_discrete : Discrete Login
login_discrete =
    of_code (λ (login : Login). (login.client, login.kind))
    (λ (two : List ℕ × ℕ). record { client = two.0; kind = two.1 }) (λ login. refl) (both bytes_discrete ℕ_discrete)

abbrev InputCode : Type 0
InputCode = CopiedParams ⊎ Bool

abbrev input_code : OwnInput → InputCode
input_code (Copied params) = inl params
input_code Faulty = inr true
input_code Unread = inr false

abbrev input_of : InputCode → OwnInput
input_of (inl params) = Copied params
input_of (inr true) = Faulty
input_of (inr false) = Unread

input_back : (input : OwnInput) → input_of (input_code input) ≡ input
input_back (Copied params) = refl
input_back Faulty = refl
input_back Unread = refl

input_discrete : Discrete OwnInput
input_discrete = of_code input_code input_of input_back (either params_discrete Bool-discrete)

-- ---- what comes back

abbrev ReplyCode : Type 0
ReplyCode = ℕ × ((ℕ × ℕ) × (ℕ × List ℕ))

reply_discrete : Discrete RpcReply
reply_discrete =
    of_code (λ (reply : RpcReply). (reply.ret, ((reply.v, reply.w), (reply.size, reply.bytes))))
    (λ (five : ReplyCode). record { ret = five.0; v = five.1.0.0; w = five.1.0.1; size = five.1.1.0; bytes = five.1.1.1 })
    (λ reply. refl) (both ℕ_discrete (both (both ℕ_discrete ℕ_discrete) (both ℕ_discrete bytes_discrete)))

abbrev BackCode : Type 0
BackCode = RpcReply ⊎ Unit {0} ⊎ Bool

abbrev back_code : BackInput → BackCode
back_code (Reply reply) = inl reply
back_code Nothing = inr (inl tt)
back_code Buffer = inr (inr true)
back_code NoBuffer = inr (inr false)

abbrev back_of : BackCode → BackInput
back_of (inl reply) = Reply reply
back_of (inr (inl nothing)) = Nothing
back_of (inr (inr true)) = Buffer
back_of (inr (inr false)) = NoBuffer

back_back : (input : BackInput) → back_of (back_code input) ≡ input
back_back (Reply reply) = refl
back_back Nothing = refl
back_back Buffer = refl
back_back NoBuffer = refl

back_discrete : Discrete BackInput
back_discrete = of_code back_code back_of back_back (either reply_discrete (either unit_discrete Bool-discrete))

-- ---- events of a session

abbrev EventCode : Type 0
EventCode = (CopiedParams × (Login × Bool)) ⊎ (ℕ × (OwnInput × Bool)) ⊎ (ℕ × ℕ) ⊎ (ℕ × BackInput) ⊎ ℕ ⊎ Bool ⊎ Bool

abbrev event_code : OwnEvent → EventCode
event_code (Open params login area) = inl (params, (login, area))
event_code (Invoke func input area) = inr (inl (func, (input, area)))
event_code (Seen call steps) = inr (inr (inl (call, steps)))
event_code (Back call input) = inr (inr (inr (inl (call, input))))
event_code (Out call) = inr (inr (inr (inr (inl call))))
event_code (Close area) = inr (inr (inr (inr (inr (inl area)))))
event_code Cancel = inr (inr (inr (inr (inr (inr true)))))
event_code Limited = inr (inr (inr (inr (inr (inr false)))))

abbrev event_of : EventCode → OwnEvent
event_of (inl (params, (login, area))) = Open params login area
event_of (inr (inl (func, (input, area)))) = Invoke func input area
event_of (inr (inr (inl (call, steps)))) = Seen call steps
event_of (inr (inr (inr (inl (call, input))))) = Back call input
event_of (inr (inr (inr (inr (inl call))))) = Out call
event_of (inr (inr (inr (inr (inr (inl area)))))) = Close area
event_of (inr (inr (inr (inr (inr (inr true)))))) = Cancel
event_of (inr (inr (inr (inr (inr (inr false)))))) = Limited

event_back : (event : OwnEvent) → event_of (event_code event) ≡ event
event_back (Open params login area) = refl
event_back (Invoke func input area) = refl
event_back (Seen call steps) = refl
event_back (Back call input) = refl
event_back (Out call) = refl
event_back (Close area) = refl
event_back Cancel = refl
event_back Limited = refl

pub event_discrete : Discrete OwnEvent
event_discrete =
    of_code event_code event_of event_back
    (either (both params_discrete (both login_discrete Bool-discrete))
    (either (both ℕ_discrete (both input_discrete Bool-discrete))
    (either (both ℕ_discrete ℕ_discrete)
    (either (both ℕ_discrete back_discrete) (either ℕ_discrete (either Bool-discrete Bool-discrete))))))

-- ---- events of a group

abbrev GroupCode : Type 0
GroupCode =
    ((OwnInput × Login) × (Bool × Bool)) ⊎ ((ℕ × ℕ) × (OwnInput × Bool)) ⊎ (ℕ × Bool) ⊎ (ℕ × ℕ) ⊎ (ℕ × BackInput) ⊎ (ℕ × Bool) ⊎ ℕ ⊎ ℕ

abbrev group_code : GroupEvent → GroupCode
group_code (group.Open input login limited area) = inl ((input, login), (limited, area))
group_code (group.Invoke session func input area) = inr (inl ((session, func), (input, area)))
group_code (group.Close session area) = inr (inr (inl (session, area)))
group_code (group.Seen call steps) = inr (inr (inr (inl (call, steps))))
group_code (group.Back call input) = inr (inr (inr (inr (inl (call, input)))))
group_code (group.Room call enough) = inr (inr (inr (inr (inr (inl (call, enough))))))
group_code (group.Cancel session) = inr (inr (inr (inr (inr (inr (inl session))))))
group_code (group.Out call) = inr (inr (inr (inr (inr (inr (inr call))))))

abbrev group_of : GroupCode → GroupEvent
group_of (inl ((input, login), (limited, area))) = group.Open input login limited area
group_of (inr (inl ((session, func), (input, area)))) = group.Invoke session func input area
group_of (inr (inr (inl (session, area)))) = group.Close session area
group_of (inr (inr (inr (inl (call, steps))))) = group.Seen call steps
group_of (inr (inr (inr (inr (inl (call, input)))))) = group.Back call input
group_of (inr (inr (inr (inr (inr (inl (call, enough))))))) = group.Room call enough
group_of (inr (inr (inr (inr (inr (inr (inl session))))))) = group.Cancel session
group_of (inr (inr (inr (inr (inr (inr (inr call))))))) = group.Out call

group_back : (event : GroupEvent) → group_of (group_code event) ≡ event
group_back (group.Open input login limited area) = refl
group_back (group.Invoke session func input area) = refl
group_back (group.Close session area) = refl
group_back (group.Seen call steps) = refl
group_back (group.Back call input) = refl
group_back (group.Room call enough) = refl
group_back (group.Cancel session) = refl
group_back (group.Out call) = refl

pub group_event_discrete : Discrete GroupEvent
group_event_discrete =
    of_code group_code group_of group_back
    (either (both (both input_discrete login_discrete) (both Bool-discrete Bool-discrete))
    (either (both (both ℕ_discrete ℕ_discrete) (both input_discrete Bool-discrete))
    (either (both ℕ_discrete Bool-discrete)
    (either (both ℕ_discrete ℕ_discrete)
    (either (both ℕ_discrete back_discrete) (either (both ℕ_discrete Bool-discrete) (either ℕ_discrete ℕ_discrete)))))))

-- ---- applications

abbrev relation_code : Relation → Unit {0} ⊎ ℕ
relation_code Digest = inl tt
relation_code (Fixed code) = inr code

abbrev relation_of : Unit {0} ⊎ ℕ → Relation
relation_of (inl nothing) = Digest
relation_of (inr code) = Fixed code

relation_back : (relation : Relation) → relation_of (relation_code relation) ≡ relation
relation_back Digest = refl
relation_back (Fixed code) = refl

relation_discrete : Discrete Relation
relation_discrete = of_code relation_code relation_of relation_back (either unit_discrete ℕ_discrete)

abbrev InstrCode : Type 0
InstrCode = ℕ × ((ℕ × ℕ) × (ℕ × ℕ))

instr_discrete : Discrete Instr
instr_discrete =
    of_code (λ (instr : Instr). (instr.op, ((instr.d, instr.a), (instr.b, instr.imm))))
    (λ (five : InstrCode). record { op = five.0; d = five.1.0.0; a = five.1.0.1; b = five.1.1.0; imm = five.1.1.1 })
    (λ instr. refl) (both ℕ_discrete (both (both ℕ_discrete ℕ_discrete) (both ℕ_discrete ℕ_discrete)))

abbrev ImageCode : Type 0
ImageCode = (ℕ × ℕ) × (List ℕ × List Instr)

image_discrete : Discrete Image
image_discrete =
    of_code (λ (image : Image). ((image.flags, image.pages), (image.entries, image.code)))
    (λ (four : ImageCode). record { flags = four.0.0; pages = four.0.1; entries = four.1.0; code = four.1.1 })
    (λ image. refl) (both (both ℕ_discrete ℕ_discrete) (both bytes_discrete (each instr_discrete)))

abbrev AppCode : Type 0
AppCode = (List ℕ × Image) ⊎ (List ℕ × Relation)

abbrev app_code : Application → AppCode
app_code (OfImage app) = inl (app.uuid, app.image)
app_code (BuiltIn uuid relation) = inr (uuid, relation)

abbrev app_of : AppCode → Application
app_of (inl (uuid, image)) = OfImage (record { uuid = uuid; image = image })
app_of (inr (uuid, relation)) = BuiltIn uuid relation

app_back : (app : Application) → app_of (app_code app) ≡ app
app_back (OfImage app) = refl
app_back (BuiltIn uuid relation) = refl

pub app_discrete : Discrete Application
app_discrete = of_code app_code app_of app_back (either (both bytes_discrete image_discrete) (both bytes_discrete relation_discrete))

-- ---- keys

pub key_discrete : Discrete (List ℕ)
key_discrete = bytes_discrete
