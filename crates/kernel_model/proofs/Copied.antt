-- What a copying of parameters shows: where what is written back lies, and that each cookie is registered.
use Rattle.std.proofs.Common.{◌≡◌, ℕ, zero, suc, ◌+◌, ◌<◌, ◌≤◌, Bool, true, false, ◌&&◌, List, [], ◌∷◌, ◌++◌, Option, Some, None, Result, Ok, Err, refl, ap, subst, sym, ◌∙◌, arith}
use Rattle.std.specs.Prelude.{All, IsSome, if◌then◌else◌, length, map, nat_le, nat_lt, ◌-◌, ◌==◌, ◌%◌}
use Rattle.std.specs.Int.{from_le_bytes, w64}
use Rattle.std.specs.List.{AllByRecursion, list_all}
use Rattle.std.specs.Option.{option_map_or}
use Rattle.std.specs.Simd.{first_chunks}
use Rattle.std.proofs.lemmas.Bool.{leb-true}
use Rattle.std.proofs.lemmas.List.{length-map}
use Rattle.std.proofs.lemmas.List.Folds.{list_all-append}
use Rattle.base.specs.NumberMap.{NumberMap, get}
use Rattle.base.proofs.MapLemmas.{All-get}
use Rattle.msg_args.specs.Layout.{argument_len, param_place}
use Rattle.msg_args.specs.Reading.{has_attribute, param_at}
use Rattle.msg_args.specs.declared.head.MsgHead.{MsgHead}
use Rattle.msg_args.specs.declared.kind.ParamKind.{ParamKind}
use Rattle.msg_args.specs.declared.kind.ParamKind.TheVariants.{Empty as NoParam, ValueIn, ValueOut, ValueInout, RmemIn, RmemOut, RmemInout, TmemIn, TmemOut, TmemInout}
use Rattle.msg_args.specs.declared.param.MsgParam.{MsgParam}
use Rattle.msg_args.proofs.Pieces.{length-first_chunks}
use Rattle.ns_ram.specs.Attempt.{Attempt, faultless, known, read, refuses, ◌>>=◌}
use Rattle.ns_ram.specs.Lane.{IsInRam, is_in_ram}
use Rattle.ns_ram.specs.Pages.{Walk, is_page, lists_of, walk, walk_lists}
use Rattle.ns_ram.specs.Reader.{Reader, done, want_bytes, want_words, ◌>>=◌ as read_then}
use Rattle.param_copy.specs.Copying.{Copies, bytes_of, copied_as, copied_param, copied_params, cookie_list, copies, copying, memory}
use Rattle.param_copy.specs.Memory.{chained_pieces, contiguous_pieces, cut_at_pages, part_of_buffer, registered_pieces, rmem_pieces, tmem_pieces, within_limit}
use Rattle.param_copy.specs.Places.{IsWritable}
use Rattle.param_copy.specs.declared.copied.Place.{Place}
use Rattle.param_copy.specs.declared.fault.CopyFault.{CopyFault}
use Rattle.param_copy.specs.declared.fault.CopyFault.TheVariants.{Cookie}
use Rattle.param_copy.proofs.Sizes.{one-in_ram}
use Rattle.shm_registry.specs.Pieces.{IsPieceOfRam}
use Rattle.shm_registry.specs.declared.page_buffer.PageBuffer.{PageBuffer}
use Rattle.shm_registry.specs.declared.piece.Piece.{Piece}
use Rattle.shm_registry.proofs.Cutting.{pieces-in_ram}
use Rattle.ta_params.specs.declared.copied_params.Way.{Way}
use Rattle.ta_params.specs.declared.copied_params.Way.TheVariants.{In, Out, Inout}
use Rattle.kernel_model.specs.Argument.{Opening, invocation, opening, opening_with, params_in}
use Rattle.kernel_model.specs.Decision.{Taken, Tested, taken_in}
use Rattle.kernel_model.specs.Located.{Located, area_of, has_argument, has_bytes, has_room, whole_len}
use Rattle.kernel_model.proofs.Parts.{AllOf}

-- ---- what holds of each value that an attempt passes

-- it holds of the value; of a refusal nothing is said
abbrev pub PassedIn : {F A : Type 0} → (A → Type 0) → Result A F → Type 0
PassedIn P (Ok value) = P value
PassedIn P (Err refusal) = Unit {0}

abbrev pub Passed : {F A : Type 0} → (A → Type 0) → Attempt F A → Type 0
Passed {F} {A} P attempt = AllOf (λ (result : Result A F). PassedIn P result) attempt

pub if_of : {A : Type 0} (P : A → Type 0) (test : Bool) (first second : Reader A) → (test ≡ true → AllOf P first) → (test ≡ false → AllOf P second)
    → AllOf P (if test then first else second)
if_of P true first second on_true on_false = on_true refl
if_of P false first second on_true on_false = on_false refl

pub AllOf-then : {A B : Type 0} (P : A → Type 0) (Q : B → Type 0) (first : Reader A) (onward : A → Reader B) → AllOf P first
    → ((value : A) → P value → AllOf Q (onward value)) → AllOf Q (read_then first onward)
AllOf-then P Q (done value) onward all rest = rest value all
AllOf-then P Q (want_bytes addr len next) onward all rest = λ got. AllOf-then P Q (next got) onward (all got) rest
AllOf-then P Q (want_words addr most test next) onward all rest = λ got. AllOf-then P Q (next got) onward (all got) rest

passes_then : {F A B : Type 0} (P : A → Type 0) (Q : B → Type 0) (first : Attempt F A) (onward : A → Attempt F B) → Passed P first
    → ((value : A) → P value → Passed Q (onward value)) → Passed Q (first >>= onward)
passes_then P Q (done (Ok value)) onward all rest = rest value all
passes_then P Q (done (Err refusal)) onward all rest = tt
passes_then P Q (want_bytes addr len next) onward all rest = λ got. passes_then P Q (next got) onward (all got) rest
passes_then P Q (want_words addr most test next) onward all rest = λ got. passes_then P Q (next got) onward (all got) rest

reads_then : {F A B : Type 0} (Q : B → Type 0) (first : Reader A) (onward : A → Attempt F B) → ((value : A) → Passed Q (onward value))
    → Passed Q (read first >>= onward)
reads_then Q (done value) onward rest = rest value
reads_then Q (want_bytes addr len next) onward rest = λ got. reads_then Q (next got) onward rest
reads_then Q (want_words addr most test next) onward rest = λ got. reads_then Q (next got) onward rest

-- ---- what holds of each value, and of each refusal

abbrev pub ShowsIn : {F A : Type 0} → (F → Type 0) → (A → Type 0) → Result A F → Type 0
ShowsIn P Q (Ok value) = Q value
ShowsIn P Q (Err refusal) = P refusal

abbrev pub Shows : {F A : Type 0} → (F → Type 0) → (A → Type 0) → Attempt F A → Type 0
Shows {F} {A} P Q attempt = AllOf (λ (result : Result A F). ShowsIn P Q result) attempt

-- of what the slot is taken for, where what follows on a value is told what holds of that
pub shows-then : {A : Type 0} (P : Taken → Type 0) (Q : A → Type 0) (first : Tested A) (onward : A → Tested Taken) → Shows P Q first
    → ((value : A) → Q value → AllOf (λ (result : Result Taken Taken). P (taken_in result)) (onward value))
    → AllOf (λ (result : Result Taken Taken). P (taken_in result)) (first >>= onward)
shows-then P Q (done (Ok value)) onward shows rest = rest value shows
shows-then P Q (done (Err refusal)) onward shows rest = shows
shows-then P Q (want_bytes addr len next) onward shows rest = λ got. shows-then P Q (next got) onward (shows got) rest
shows-then P Q (want_words addr most test next) onward shows rest = λ got. shows-then P Q (next got) onward (shows got) rest

pub known-shows : {F A : Type 0} (P : F → Type 0) (Q : A → Type 0) (found : Option A) (refusal : F) → P refusal
    → ((value : A) → found ≡ Some value → Q value) → Shows P Q (known found refusal)
known-shows P Q None refusal fails shows = fails
known-shows P Q (Some value) refusal fails shows = shows value refl

pub read-shows : {F A B : Type 0} (P : F → Type 0) (Q : B → Type 0) (first : Reader A) (onward : A → Attempt F B)
    → ((value : A) → Shows P Q (onward value)) → Shows P Q (read first >>= onward)
read-shows P Q (done value) onward rest = rest value
read-shows P Q (want_bytes addr len next) onward rest = λ got. read-shows P Q (next got) onward rest
read-shows P Q (want_words addr most test next) onward rest = λ got. read-shows P Q (next got) onward rest

pub faultless-shows : {E F A : Type 0} (P : F → Type 0) (Q : A → Type 0) (attempt : Attempt E A) (refusal : F) → P refusal → Passed Q attempt
    → Shows P Q (faultless attempt refusal)
faultless-shows P Q (done (Ok value)) refusal fails passed = passed
faultless-shows P Q (done (Err fault)) refusal fails passed = fails
faultless-shows P Q (want_bytes addr len next) refusal fails passed = λ got. faultless-shows P Q (next got) refusal fails (passed got)
faultless-shows P Q (want_words addr most test next) refusal fails passed = λ got. faultless-shows P Q (next got) refusal fails (passed got)

-- ---- pages and pieces

-- the pages of a buffer are pages of RAM
abbrev pub HasGoodPages : ℕ × PageBuffer → Type 0
HasGoodPages kept = list_all is_page kept.1.pages ≡ true

abbrev pub AreGoodPages : List ℕ → Type 0
AreGoodPages pages = list_all is_page pages ≡ true

both_good : (one other : Bool) → one ≡ true → other ≡ true → (one && other) ≡ true
both_good true other e f = f
both_good false other e f = absurd cc

pages_joined : (found entries : List ℕ) → AreGoodPages found → AreGoodPages entries → AreGoodPages (found ++ entries)
pages_joined found entries one other =
    list_all-append is_page found entries ∙ both_good (list_all is_page found) (list_all is_page entries) one other

lists_pages : (lists list count : ℕ) (found : List ℕ) → AreGoodPages found → Passed AreGoodPages (walk_lists lists list count found)
lists_pages zero list count found good = good
lists_pages (suc lists) list count found good =
    if_of _ (is_page list) _ _
    (λ page. λ entries. if_of _ (list_all is_page entries) _ _
    (λ passed. if_of _ (nat_le count 511) _ _
    (λ last. pages_joined found entries good passed)
    (λ more. λ word. lists_pages lists (from_le_bytes w64 word) (count - 511) (found ++ entries) (pages_joined found entries good passed)))
    (λ bad. tt))
    (λ bad. tt)

pub walk_pages : (list count : ℕ) → Passed AreGoodPages (walk list count)
walk_pages list count = lists_pages (lists_of count) list count [] refl

abbrev pub AreOfRam : List Piece → Type 0
AreOfRam pieces = AllByRecursion IsPieceOfRam pieces

chained : (number : ℕ) (param : MsgParam) → Passed AreOfRam (chained_pieces number param)
chained number param =
    AllOf-then (λ (walked : Walk). PassedIn AreGoodPages walked) _ (walk (param.p - param.p % 4096) _) (cut_at_pages number param)
    (walk_pages (param.p - param.p % 4096) _) cut
  where
    cut : (walked : Walk) → PassedIn AreGoodPages walked → Passed AreOfRam (cut_at_pages number param walked)
    cut (Ok pages) good = pieces-in_ram pages (param.p % 4096) param.q good
    cut (Err page) good = tt

contiguous : (number : ℕ) (param : MsgParam) → Passed AreOfRam (contiguous_pieces number param)
contiguous number param = if_of _ (is_in_ram param.p param.q) _ _ (λ inside. one-in_ram param.p param.q inside) (λ outside. tt)

limited : (P : List Piece → Type 0) (number : ℕ) (param : MsgParam) (located : Attempt CopyFault (List Piece)) → Passed P located
    → Passed P (within_limit number param located)
limited P number param located all = if_of _ (nat_lt 65536 param.q) _ _ (λ long. tt) (λ short. all)

pub named : (number : ℕ) (param : MsgParam) → Passed AreOfRam (tmem_pieces number param)
named number param =
    if_of _ param.noncontig _ _ (λ lists. limited AreOfRam number param (chained_pieces number param) (chained number param))
    (λ plain. if_of _ (param.p == 0) _ _ (λ null. tt) (λ some. limited AreOfRam number param (contiguous_pieces number param) (contiguous number param)))

-- ---- one parameter

-- all buffers have
abbrev pub HaveGoodPages : NumberMap PageBuffer → Type 0
HaveGoodPages buffers = All HasGoodPages buffers

abbrev pub IsKept : NumberMap PageBuffer → ℕ → Type 0
IsKept buffers cookie = IsSome (get buffers cookie)

abbrev pub HasKeptCookie : NumberMap PageBuffer → Option ℕ → Type 0
HasKeptCookie buffers None = Unit {0}
HasKeptCookie buffers (Some cookie) = IsKept buffers cookie

-- pieces of RAM, and the cookie is registered
abbrev pub ArePieces : NumberMap PageBuffer → Option ℕ → List Piece → Type 0
ArePieces buffers cookie pieces = HasKeptCookie buffers cookie × (HaveGoodPages buffers → AreOfRam pieces)

-- a place of this number, of so many
record IsGoodPlace (buffers : NumberMap PageBuffer) (number limit : ℕ) (place : Place) : Type 0 where
  below : number < limit
  numbered : place.number ≡ number
  located : HaveGoodPages buffers → AreOfRam place.pieces

-- places with these numbers, one after the other
abbrev AreGoodPlaces : NumberMap PageBuffer → ℕ → ℕ → List Place → Type 0
AreGoodPlaces buffers number limit [] = Unit {0}
AreGoodPlaces buffers number limit (place ∷ places) = IsGoodPlace buffers number limit place × AreGoodPlaces buffers (suc number) limit places

record AreGoodCopies (buffers : NumberMap PageBuffer) (number limit : ℕ) (some : Copies) : Type 0 where
  places : AreGoodPlaces buffers number limit some.places
  cookies : AllByRecursion (IsKept buffers) some.cookies

pub registered : (buffers : NumberMap PageBuffer) (number : ℕ) (param : MsgParam) → Passed (ArePieces buffers (Some param.s)) (rmem_pieces buffers number param)
registered buffers number param =
    limited (ArePieces buffers (Some param.s)) number param (registered_pieces buffers number param) (found (get buffers param.s) refl)
  where
    found : (o : Option PageBuffer) → get buffers param.s ≡ o
        → Passed (ArePieces buffers (Some param.s)) (option_map_or (part_of_buffer number param) o (refuses (Cookie number)))
    found None is = tt
    found (Some buffer) is = if_of _ (nat_lt buffer.size (param.p + param.q)) _ _ (λ outside. tt)
        (λ inside. (
          subst (λ (o : Option PageBuffer). IsSome o) (sym is) refl,
          λ good. pieces-in_ram buffer.pages (buffer.offset + param.p) param.q (All-get HasGoodPages buffers param.s buffer good is),
        ))

module _ (buffers : NumberMap PageBuffer) (number limit : ℕ) (param : MsgParam) (below : number < limit) where
  -- what one parameter shows
  abbrev CopiedSo : ParamKind → Type 0
  CopiedSo kind = Passed (λ copy. AreGoodCopies buffers number limit (copies (copy ∷ []))) (copied_as kind buffers number param)

  one_cookie : (cookie : Option ℕ) → HasKeptCookie buffers cookie → AllByRecursion (IsKept buffers) (cookie_list cookie ++ [])
  one_cookie None kept = tt
  one_cookie (Some cookie) kept = (kept, tt)

  in_memory : (way : Way) (cookie : Option ℕ) (located : Attempt CopyFault (List Piece)) → Passed (ArePieces buffers cookie) located
      → Passed (λ copy. AreGoodCopies buffers number limit (copies (copy ∷ []))) (memory number way cookie located)
  in_memory way cookie located all =
      passes_then (ArePieces buffers cookie) (λ copy. AreGoodCopies buffers number limit (copies (copy ∷ []))) located _ all (λ pieces fine.
      reads_then (λ copy. AreGoodCopies buffers number limit (copies (copy ∷ []))) (bytes_of way pieces) _ (λ bytes. record {
        places = (record { below = below; numbered = refl; located = fine.1 }, tt);
        cookies = one_cookie cookie fine.0;
      }))

  pieces_named : Passed (ArePieces buffers None) (tmem_pieces number param)
  pieces_named = onward (tmem_pieces number param) (named number param)
    where
      onward : (located : Attempt CopyFault (List Piece)) → Passed AreOfRam located → Passed (ArePieces buffers None) located
      onward (done (Ok pieces)) all = (tt, λ good. all)
      onward (done (Err fault)) all = tt
      onward (want_bytes addr len next) all = λ got. onward (next got) (all got)
      onward (want_words addr most test next) all = λ got. onward (next got) (all got)

  copied_so : (kind : ParamKind) → CopiedSo kind
  copied_so NoParam = record { places = (record { below = below; numbered = refl; located = λ good. tt }, tt); cookies = tt }
  copied_so ValueIn = record { places = (record { below = below; numbered = refl; located = λ good. tt }, tt); cookies = tt }
  copied_so ValueOut = record { places = (record { below = below; numbered = refl; located = λ good. tt }, tt); cookies = tt }
  copied_so ValueInout = record { places = (record { below = below; numbered = refl; located = λ good. tt }, tt); cookies = tt }
  copied_so RmemIn = in_memory In (Some param.s) (rmem_pieces buffers number param) (registered buffers number param)
  copied_so RmemOut = in_memory Out (Some param.s) (rmem_pieces buffers number param) (registered buffers number param)
  copied_so RmemInout = in_memory Inout (Some param.s) (rmem_pieces buffers number param) (registered buffers number param)
  copied_so TmemIn = in_memory In None (tmem_pieces number param) pieces_named
  copied_so TmemOut = in_memory Out None (tmem_pieces number param) pieces_named
  copied_so TmemInout = in_memory Inout None (tmem_pieces number param) pieces_named

-- ---- all of them

kept_joined : (buffers : NumberMap PageBuffer) (first rest : List ℕ) → AllByRecursion (IsKept buffers) (first ++ []) → AllByRecursion (IsKept buffers) rest
    → AllByRecursion (IsKept buffers) (first ++ rest)
kept_joined buffers [] rest one all = all
kept_joined buffers (cookie ∷ first) rest one all = (one.0, kept_joined buffers first rest one.1 all)

all_copied : (buffers : NumberMap PageBuffer) (number limit : ℕ) (params : List MsgParam) → number + length params ≤ limit
    → Passed (λ all. AreGoodCopies buffers number limit (copies all)) (copied_params buffers number params)
all_copied buffers number limit [] few = record { places = tt; cookies = tt }
all_copied buffers number limit (param ∷ params) few =
    passes_then (λ copy. AreGoodCopies buffers number limit (copies (copy ∷ []))) (λ all. AreGoodCopies buffers number limit (copies all))
    (copied_param buffers number param) _ (copied_so buffers number limit param (omega arith) param.kind) (λ copy good.
    passes_then (λ all. AreGoodCopies buffers (suc number) limit (copies all)) (λ all. AreGoodCopies buffers number limit (copies all))
    (copied_params buffers (suc number) params) _ (all_copied buffers (suc number) limit params (omega arith)) (λ others rest. record {
      places = (good.places.0, rest.places);
      cookies = kept_joined buffers (cookie_list copy.cookie) _ good.cookies rest.cookies;
    }))

-- what is copied shows of the argument at an address, of so many parameters
pub record AreCopied (buffers : NumberMap PageBuffer) (arg count : ℕ) (copied : Copies) : Type 0 where
  pub places : HaveGoodPages buffers → IsInRam arg (argument_len count) → AllByRecursion (IsWritable arg) copied.places
  pub cookies : AllByRecursion (IsKept buffers) copied.cookies

written_to : (buffers : NumberMap PageBuffer) (arg number count : ℕ) (all : List Place) → AreGoodPlaces buffers number count all → HaveGoodPages buffers
    → IsInRam arg (argument_len count) → AllByRecursion (IsWritable arg) all
written_to buffers arg number count [] goods pages within = tt
written_to buffers arg number count (place ∷ others) goods pages within =
    let good = goods.0 in
    let low = within.0 in
    let high = within.1 in
    let below = good.below in
    let here : IsInRam (param_place arg number) 32 = (omega arith, omega arith) in (
      record {
        argument = subst (λ (n : ℕ). IsInRam (param_place arg n) 32) (sym good.numbered) here;
        pieces = good.located pages;
      },
      written_to buffers arg (suc number) count others goods.1 pages within,
    )

-- where the parameters are among those of the argument
pub copying_all : (buffers : NumberMap PageBuffer) (params : List MsgParam) (first arg count : ℕ) → first + length params ≤ count
    → Passed (AreCopied buffers arg count) (copying buffers params first)
copying_all buffers params first arg count few =
    passes_then (λ all. AreGoodCopies buffers first count (copies all)) (AreCopied buffers arg count) (copied_params buffers first params) _
    (all_copied buffers first count params few) (λ all goods. record {
      places = λ pages within. written_to buffers arg first count (copies all).places goods.places pages within;
      cookies = goods.cookies;
    })

-- ---- how many parameters there are

pub params_counted : (count : ℕ) (bytes : List ℕ) (params : List MsgParam) → params_in count bytes ≡ Some params → length params ≡ count
params_counted count bytes params e = by_test (list_all has_attribute (first_chunks 32 count bytes)) e
  where
    by_test : (test : Bool) → (if test then Some (map param_at (first_chunks 32 count bytes)) else None) ≡ Some params → length params ≡ count
    by_test true is =
        let same : map param_at (first_chunks 32 count bytes) ≡ params = cc in
        ap length (sym same) ∙ length-map (first_chunks 32 count bytes) param_at ∙ length-first_chunks count bytes
    by_test false is = absurd cc

-- those of an open behind its two names, and those of an invoke, are among them
pub opening_room : (params : List MsgParam) (wanted : Opening) (count : ℕ) → opening params ≡ Some wanted → length params ≡ count
    → 2 + length wanted.params ≤ count
opening_room [] wanted count e counted = absurd cc
opening_room (app ∷ []) wanted count e counted = absurd cc
opening_room (app ∷ client ∷ params) wanted count e counted = by_test _ e
  where
    by_test : (test : Bool) → (if test then Some (opening_with app client params) else None) ≡ Some wanted → 2 + length wanted.params ≤ count
    by_test true is =
        let same : opening_with app client params ≡ wanted = cc in
        let length_is : length params ≡ length wanted.params = ap (λ (o : Opening). length o.params) same in
        omega (arith, length_is, counted)
    by_test false is = absurd cc

pub invoked_room : (params invoked : List MsgParam) (count : ℕ) → invocation params ≡ Some invoked → length params ≡ count → 0 + length invoked ≤ count
invoked_room params invoked count e counted = by_test _ e
  where
    by_test : (test : Bool) → (if test then Some params else None) ≡ Some invoked → 0 + length invoked ≤ count
    by_test true is =
        let same : params ≡ invoked = cc in
        let length_is : length params ≡ length invoked = ap length same in
        omega (arith, length_is, counted)
    by_test false is = absurd cc

-- an argument of which the head is accepted lies in RAM, with its area
whole_inside : (at : Located) (head : MsgHead) → has_argument at head ≡ true → IsInRam at.addr (whole_len at head)
whole_inside at head e =
    let len = whole_len at head in
    let bytes = (both (nat_le head.count 6) (has_bytes at len) e).1 in
    let second = (both (is_in_ram at.addr len) (has_room at len) bytes).0 in
    let bounds = both (nat_le 0x40000000 at.addr) (nat_le (at.addr + len) (0x40000000 + 0x400000)) second in
    (leb-true 0x40000000 at.addr bounds.0, leb-true (at.addr + len) (0x40000000 + 0x400000) bounds.1)
  where
    both : (one other : Bool) → (one && other) ≡ true → (one ≡ true) × (other ≡ true)
    both true other e = (refl, e)
    both false other e = absurd cc

pub argument_inside : (at : Located) (head : MsgHead) → has_argument at head ≡ true → IsInRam at.addr (argument_len head.count)
argument_inside at head e =
    let whole = whole_inside at head e in
    let low = whole.0 in
    let high = whole.1 in
    (low, omega (arith, high))

pub area_inside : (at : Located) (head : MsgHead) (area : ℕ) → has_argument at head ≡ true → area_of at head ≡ Some area → IsInRam area 160
area_inside at head area e is = by_flag at.has_area (whole_inside at head e) is
  where
    by_flag : (has : Bool) → IsInRam at.addr (argument_len head.count + (if has then 160 else 0))
        → (if has then Some (at.addr + argument_len head.count) else None) ≡ Some area → IsInRam area 160
    by_flag true whole there =
        let low = whole.0 in
        let high = whole.1 in
        let same : at.addr + argument_len head.count ≡ area = cc in
        subst (λ (a : ℕ). IsInRam a 160) same (omega (arith, low), omega (arith, high))
    by_flag false whole there = absurd cc
