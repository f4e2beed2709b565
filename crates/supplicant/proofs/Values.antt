-- The request that an argument can be has numbers of its types, and a name of a file.
use Rattle.std.proofs.Common.{◌≡◌, ℕ, ◌<◌, ◌^◌, ◌==◌, Bool, true, false, cond, List, [], ◌∷◌, take, Option, Some, None, refl}
use Rattle.std.specs.Prelude.{All, IfSome, nat_lt}
use Rattle.std.specs.Option.{option_map}
use Rattle.std.proofs.lemmas.Bool.{ltb-true}
use Rattle.std.proofs.lemmas.List.Elements.{All-head}
use Rattle.msg_args.specs.declared.arg.MsgArg.{MsgArg}
use Rattle.msg_args.specs.declared.param.MsgParam.{MsgParam}
use Rattle.msg_args.specs.Spelling.{FitsParam, IsArgument}
use Rattle.rpc_msgs.specs.declared.rpc.Rpc.{Rpc}
use Rattle.rpc_msgs.specs.declared.rpc.Rpc.TheVariants.{Time, Sleep, Wake, Suspend, FsOpen, FsCreate, FsClose, FsRead, FsWrite, FsRemove}
use Rattle.rpc_msgs.specs.FileName.{IsFileName}
use Rattle.supplicant.specs.Candidate.{file_request_in, is_file_name, len_in, name_in, notification_in, of_command, of_params, rpc_in, u32_in}
use Rattle.supplicant.specs.Holding.{IsValue}
use Rattle.supplicant.proofs.Candidates.{test_name}

-- a request, if there is one, has such values
abbrev Values : Option Rpc → Type 0
Values found = IfSome found IsValue

either : (test : Bool) (one other : Option Rpc) → Values one → Values other → Values (cond test one other)
either true one other of_one of_other = of_one
either false one other of_one of_other = of_other

by_width : (request : ℕ → Rpc) → ((n : ℕ) → n < 2 ^ 32 → IsValue (request n)) → (n : ℕ) (test : Bool) → nat_lt n 0x100000000 ≡ test →
    Values (option_map request (cond test (Some n) None))
by_width request holds n true is = holds n (ltb-true n 0x100000000 is)
by_width request holds n false is = tt

of_u32 : (request : ℕ → Rpc) → ((n : ℕ) → n < 2 ^ 32 → IsValue (request n)) → (n : ℕ) → Values (option_map request (u32_in n))
of_u32 request holds n = by_width request holds n (nat_lt n 0x100000000) refl

by_name : (request : List ℕ → Rpc) → ((name : List ℕ) → IsFileName name → IsValue (request name)) → (bytes : List ℕ) (test : Bool) → is_file_name bytes ≡ test →
    Values (option_map request (cond test (Some bytes) None))
by_name request holds bytes true is = holds bytes (test_name bytes is)
by_name request holds bytes false is = tt

of_name : (request : List ℕ → Rpc) → ((name : List ℕ) → IsFileName name → IsValue (request name)) → (payload : List ℕ) (len : ℕ) →
    Values (option_map request (name_in payload len))
of_name request holds payload len = by_name request holds (take len payload) (is_file_name (take len payload)) refl

of_notification : (of : MsgParam) → Values (notification_in of)
of_notification of =
    either (of.p == 0) _ _ (of_u32 Sleep (λ key small. small) of.q)
    (either (of.p == 1) _ _ (of_u32 Wake (λ key small. small) of.q) tt)

of_file_request : (of : MsgParam) (len : ℕ) (payload : List ℕ) → FitsParam of → Values (file_request_in of len payload)
of_file_request of len payload fits =
    either (of.p == 0) _ _ (of_name FsOpen (λ name is. is) payload len)
    (either (of.p == 1) _ _ (of_name FsCreate (λ name is. is) payload len)
    (either (of.p == 2) (Some (FsClose of.q)) _ fits.q
    (either (of.p == 3) _ _ (of_u32 (FsRead of.q of.s) (λ n small. (fits.q, fits.s, small)) len)
    (either (of.p == 4) _ _ (of_u32 (FsWrite of.q of.s) (λ n small. (fits.q, fits.s, small)) len)
    (either (of.p == 6) _ None (of_name FsRemove (λ name is. is) payload len) tt)))))

of_the_command : (cmd : ℕ) (of : MsgParam) (len : ℕ) (payload : List ℕ) → FitsParam of → Values (of_command cmd of len payload)
of_the_command cmd of len payload fits =
    either (cmd == 2) _ _ (of_file_request of len payload fits)
    (either (cmd == 3) (Some Time) _ tt
    (either (cmd == 4) _ _ (of_notification of)
    (either (cmd == 5) _ None (of_u32 Suspend (λ ms small. small) of.p) tt)))

of_the_params : (cmd : ℕ) (params : List MsgParam) (payload : List ℕ) → All FitsParam params → Values (of_params cmd params payload)
of_the_params cmd [] payload fits = tt
of_the_params cmd (of ∷ others) payload fits = of_the_command cmd of (len_in others) payload (All-head FitsParam of others fits)

pub rpc_values : (arg : MsgArg) (payload : List ℕ) → IsArgument arg → Values (rpc_in arg payload)
rpc_values arg payload is = of_the_params arg.head.cmd arg.params.items payload is.params
