-- What the tests of a command come to, by the first that fails.
use Rattle.std.proofs.Common.{◌≡◌, ℕ, Bool, true, false, nat_le, nat_lt, List, length, Option, Some, None, Result, Ok, Err, refl, ◌∙◌}
use Rattle.std.specs.Prelude.{◌&&◌, if◌then◌else◌, is_none, not}
use Rattle.base.specs.NumberMap.{get}
use Rattle.kernel_model.specs.Argument.{Opening, invocation, opening, registering}
use Rattle.kernel_model.specs.Application.{Application}
use Rattle.kernel_model.specs.Codes.{bad_parameters, busy, item_not_found, out_of_memory, target_dead}
use Rattle.kernel_model.specs.Decision.{Taken, Tested}
use Rattle.kernel_model.specs.Instances.{app_of}
use Rattle.kernel_model.specs.Kernel.{Instance}
use Rattle.kernel_model.specs.NewCall.{NewCall, copied_params, has_pages, has_session_room, invoke_command, invokes, is_taken, keeps_buffer, listed_pages, named_session, open_session, opens_or_waits, pages_touched, parameters, register_memory, settles, settles_invoke, settles_open, shares_one}
use Rattle.msg_args.specs.declared.param.MsgParam.{MsgParam}
use Rattle.ns_ram.specs.Attempt.{faultless, need, ◌>>◌}
use Rattle.ns_ram.specs.declared.read.Read.{Read}
use Rattle.ns_ram.specs.Reader.{over_lane}
use Rattle.param_copy.specs.Copying.{Copies}
use Rattle.session_table.specs.declared.session.Session.{Session}
use Rattle.ta_params.specs.declared.login.Login.{Login}
use Rattle.new_calls.specs.Deciding.{HaveSaid}
use Rattle.new_calls.specs.Faults.{open_fault, register_fault}
use Rattle.new_calls.proofs.Steps.{passed_on, refused_at}

-- what is taken where all tests pass, with the reads
abbrev pub passing : List Read → Taken → Option (Result Taken Taken × List Read)
passing reads taken = Some (Ok taken, reads)

-- ---- invoke

pub invoke_unnamed : (c : NewCall) (lane : List ℕ) (before between : List Read) (invoked : List MsgParam) →
    HaveSaid c invocation invoked lane before between → named_session c ≡ None →
    over_lane (invoke_command c) lane before ≡ Some (Err (settles c bad_parameters), between)
invoke_unnamed c lane before between invoked said unnamed =
    passed_on (parameters c) _ lane before between said.0 said.1 ∙ rw (said.2, unnamed) refl

pub invoke_dead : (c : NewCall) (lane : List ℕ) (before between : List Read) (invoked : List MsgParam) (session : Session) (instance : Instance) →
    HaveSaid c invocation invoked lane before between → named_session c ≡ Some (session, instance) → instance.dead ≡ true →
    over_lane (invoke_command c) lane before ≡ Some (Err (settles_invoke c target_dead), between)
invoke_dead c lane before between invoked session instance said named dead =
    passed_on (parameters c) _ lane before between said.0 said.1 ∙ rw (said.2, named, dead) refl

pub invoke_uncopied : (c : NewCall) (lane : List ℕ) (before between after : List Read) (invoked : List MsgParam) (session : Session) (instance : Instance) (taken : Taken) →
    HaveSaid c invocation invoked lane before between → named_session c ≡ Some (session, instance) → instance.dead ≡ false →
    over_lane (copied_params c invoked 0 (settles_invoke c bad_parameters)) lane between ≡ Some (Err taken, after) →
    over_lane (invoke_command c) lane before ≡ Some (Err taken, after)
invoke_uncopied c lane before between after invoked session instance taken said named dead uncopied =
    passed_on (parameters c) _ lane before between said.0 said.1
    ∙ rw (said.2, named, dead) (refused_at (copied_params c invoked 0 (settles_invoke c bad_parameters)) _ lane between after taken uncopied)

pub invoke_passes : (c : NewCall) (lane : List ℕ) (before between after : List Read) (invoked : List MsgParam) (session : Session) (instance : Instance) (copies : Copies) →
    HaveSaid c invocation invoked lane before between → named_session c ≡ Some (session, instance) → instance.dead ≡ false →
    over_lane (copied_params c invoked 0 (settles_invoke c bad_parameters)) lane between ≡ Some (Ok copies, after) →
    over_lane (invoke_command c) lane before ≡ Some (Ok (invokes c (session, instance) copies), after)
invoke_passes c lane before between after invoked session instance copies said named dead copied =
    passed_on (parameters c) _ lane before between said.0 said.1
    ∙ rw (said.2, named, dead) (passed_on (copied_params c invoked 0 (settles_invoke c bad_parameters)) _ lane between after copies copied)

-- ---- register

-- the tests on the buffer, by their outcomes, and the rest
abbrev register_tests : NewCall → Bool → Bool → Bool → Bool → Tested Taken → Tested Taken
register_tests c new some few room rest = do
  need new (settles c bad_parameters)
  need some (settles c bad_parameters)
  need few (settles c bad_parameters)
  need room (settles c out_of_memory)
  rest

abbrev register_code : Bool → Bool → Bool → Bool → Option ℕ
register_code new some few room =
    if new && (some && few) then (if room then None else Some out_of_memory) else Some bad_parameters

register_stops : (c : NewCall) (new some few room : Bool) (rest : Tested Taken) (lane : List ℕ) (reads : List Read) (code : ℕ) →
    register_code new some few room ≡ Some code →
    over_lane (register_tests c new some few room rest) lane reads ≡ Some (Err (settles c code), reads)
register_stops c false some few room rest lane reads code is = cc
register_stops c true false few room rest lane reads code is = cc
register_stops c true true false room rest lane reads code is = cc
register_stops c true true true false rest lane reads code is = cc
register_stops c true true true true rest lane reads code is = cc

register_all : (new some few room : Bool) → register_code new some few room ≡ None →
    (new ≡ true) × (some ≡ true) × (few ≡ true) × (room ≡ true)
register_all false some few room is = cc
register_all true false few room is = cc
register_all true true false room is = cc
register_all true true true false is = cc
register_all true true true true is = (refl, refl, refl, refl)

-- where none fails
pub register_allowed : (c : NewCall) (param : MsgParam) → register_fault c param ≡ None →
    (is_none (get c.tables.registered.buffers param.s) ≡ true) × (nat_lt 0 param.q ≡ true)
    × (nat_le (pages_touched param) 1024 ≡ true) × (nat_lt (length c.tables.registered.buffers) 64 ≡ true)
register_allowed c param none = register_all _ _ _ _ none

pub register_refused : (c : NewCall) (lane : List ℕ) (before between : List Read) (param : MsgParam) (code : ℕ) →
    HaveSaid c registering param lane before between → register_fault c param ≡ Some code →
    over_lane (register_memory c) lane before ≡ Some (Err (settles c code), between)
register_refused c lane before between param code said fault =
    passed_on (parameters c) _ lane before between said.0 said.1
    ∙ rw said.2 (register_stops c (is_none (get c.tables.registered.buffers param.s)) (nat_lt 0 param.q) (nat_le (pages_touched param) 1024)
    (nat_lt (length c.tables.registered.buffers) 64) _ lane between code fault)

pub register_unpaged : (c : NewCall) (lane : List ℕ) (before between after : List Read) (param : MsgParam) (taken : Taken) →
    HaveSaid c registering param lane before between → register_fault c param ≡ None →
    over_lane (faultless (listed_pages param) (settles c bad_parameters)) lane between ≡ Some (Err taken, after) →
    over_lane (register_memory c) lane before ≡ Some (Err taken, after)
register_unpaged c lane before between after param taken said fault walked =
    let allowed = register_allowed c param fault in
    passed_on (parameters c) _ lane before between said.0 said.1
    ∙ rw (said.2, allowed.0, allowed.1, allowed.2, allowed.3)
    (refused_at (faultless (listed_pages param) (settles c bad_parameters)) _ lane between after taken walked)

pub register_passes : (c : NewCall) (lane : List ℕ) (before between after : List Read) (param : MsgParam) (pages : List ℕ) →
    HaveSaid c registering param lane before between → register_fault c param ≡ None →
    over_lane (faultless (listed_pages param) (settles c bad_parameters)) lane between ≡ Some (Ok pages, after) →
    over_lane (register_memory c) lane before ≡ Some (Ok (keeps_buffer c param pages), after)
register_passes c lane before between after param pages said fault walked =
    let allowed = register_allowed c param fault in
    passed_on (parameters c) _ lane before between said.0 said.1
    ∙ rw (said.2, allowed.0, allowed.1, allowed.2, allowed.3)
    (passed_on (faultless (listed_pages param) (settles c bad_parameters)) _ lane between after pages walked)

-- ---- open

-- the tests on the application, by their outcomes, and the rest
abbrev open_tests : NewCall → Application → Login → Bool → Bool → Bool → Bool → Tested Taken → Tested Taken
open_tests c app login dead taken room pages rest = do
  need (not dead) (settles_open c app login target_dead)
  need (not taken) (settles_open c app login busy)
  need room (settles_open c app login out_of_memory)
  need pages (settles_open c app login out_of_memory)
  rest

abbrev open_code : Bool → Bool → Bool → Bool → Option ℕ
open_code dead taken room pages =
    if dead then Some target_dead else if taken then Some busy else if room && pages then None else Some out_of_memory

open_stops : (c : NewCall) (app : Application) (login : Login) (dead taken room pages : Bool) (rest : Tested Taken) (lane : List ℕ) (reads : List Read) (code : ℕ) →
    open_code dead taken room pages ≡ Some code →
    over_lane (open_tests c app login dead taken room pages rest) lane reads ≡ Some (Err (settles_open c app login code), reads)
open_stops c app login true taken room pages rest lane reads code is = cc
open_stops c app login false true room pages rest lane reads code is = cc
open_stops c app login false false false pages rest lane reads code is = cc
open_stops c app login false false true false rest lane reads code is = cc
open_stops c app login false false true true rest lane reads code is = cc

open_all : (dead taken room pages : Bool) → open_code dead taken room pages ≡ None →
    (dead ≡ false) × (taken ≡ false) × (room ≡ true) × (pages ≡ true)
open_all true taken room pages is = cc
open_all false true room pages is = cc
open_all false false false pages is = cc
open_all false false true false is = cc
open_all false false true true is = (refl, refl, refl, refl)

-- where none fails
pub open_allowed : (c : NewCall) (app : Application) → open_fault c app ≡ None →
    (shares_one c app (λ kept. kept.1.dead) ≡ false) × (is_taken c app ≡ false) × (has_session_room c ≡ true) × (has_pages c app ≡ true)
open_allowed c app none = open_all _ _ _ _ none

pub open_unfound : (c : NewCall) (lane : List ℕ) (before between : List Read) (wanted : Opening) →
    HaveSaid c opening wanted lane before between → app_of c.boot wanted.uuid ≡ None →
    over_lane (open_session c) lane before ≡ Some (Err (settles c item_not_found), between)
open_unfound c lane before between wanted said app_is =
    passed_on (parameters c) _ lane before between said.0 said.1 ∙ rw (said.2, app_is) refl

pub open_refused : (c : NewCall) (lane : List ℕ) (before between : List Read) (wanted : Opening) (app : Application) (code : ℕ) →
    HaveSaid c opening wanted lane before between → app_of c.boot wanted.uuid ≡ Some app → open_fault c app ≡ Some code →
    over_lane (open_session c) lane before ≡ Some (Err (settles_open c app wanted.login code), between)
open_refused c lane before between wanted app code said app_is fault =
    passed_on (parameters c) _ lane before between said.0 said.1
    ∙ rw (said.2, app_is)
    (open_stops c app wanted.login (shares_one c app (λ kept. kept.1.dead)) (is_taken c app) (has_session_room c) (has_pages c app) _ lane between code fault)

pub open_uncopied : (c : NewCall) (lane : List ℕ) (before between after : List Read) (wanted : Opening) (app : Application) (taken : Taken) →
    HaveSaid c opening wanted lane before between → app_of c.boot wanted.uuid ≡ Some app → open_fault c app ≡ None →
    over_lane (copied_params c wanted.params 2 (settles_open c app wanted.login bad_parameters)) lane between ≡ Some (Err taken, after) →
    over_lane (open_session c) lane before ≡ Some (Err taken, after)
open_uncopied c lane before between after wanted app taken said app_is fault uncopied =
    let allowed = open_allowed c app fault in
    passed_on (parameters c) _ lane before between said.0 said.1
    ∙ rw (said.2, app_is, allowed.0, allowed.1, allowed.2, allowed.3)
    (refused_at (copied_params c wanted.params 2 (settles_open c app wanted.login bad_parameters)) _ lane between after taken uncopied)

pub open_passes : (c : NewCall) (lane : List ℕ) (before between after : List Read) (wanted : Opening) (app : Application) (copies : Copies) →
    HaveSaid c opening wanted lane before between → app_of c.boot wanted.uuid ≡ Some app → open_fault c app ≡ None →
    over_lane (copied_params c wanted.params 2 (settles_open c app wanted.login bad_parameters)) lane between ≡ Some (Ok copies, after) →
    over_lane (open_session c) lane before ≡ Some (Ok (opens_or_waits c wanted app copies), after)
open_passes c lane before between after wanted app copies said app_is fault copied =
    let allowed = open_allowed c app fault in
    passed_on (parameters c) _ lane before between said.0 said.1
    ∙ rw (said.2, app_is, allowed.0, allowed.1, allowed.2, allowed.3)
    (passed_on (copied_params c wanted.params 2 (settles_open c app wanted.login bad_parameters)) _ lane between after copies copied)
