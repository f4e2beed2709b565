-- Texts to which a line more is appended.
use Rattle.std.proofs.Common.{◌≡◌, ℕ, ◌+◌, ◌-◌, ◌*◌, ◌<◌, ◌≤◌, false, true, List, [], ◌∷◌, ◌++◌, length, take, get_or, Option, Some, None, refl, suc, sym, ap, ap₂, ◌∙◌, append_assoc, append-nil, arith, inl, inr}
use Rattle.std.specs.Prelude.{OnOk, Result, Ok, Err, codes, slice_get}
use Rattle.std.specs.Fmt.{decimal}
use Rattle.std.specs.List.{flat_map}
use Rattle.std.specs.Str.{bytes_eq}
use Rattle.std.proofs.lemmas.List.{flat_map_more, take_more}
use Rattle.std.proofs.lemmas.List.Sums.{get_or-le-sum_by}
use Rattle.std.proofs.lemmas.Option.{slice_get_cases}
use Rattle.event_journal.specs.Event.{copied_by}
use Rattle.event_journal.specs.Journal.{copied_bytes}
use Rattle.event_journal.specs.declared.event.Event.{Event}
use Rattle.kernel_model.specs.Kernel.{Instance, Tables}
use Rattle.live_play.specs.Changes.{block_at, change_at, changes_below, text_of_changes, wrote_line}
use Rattle.live_play.specs.State.{holder_text, instance_line, life_text, numbered, piece_line, piece_lines, text_if, texts_below, users_of}
use Rattle.ns_ram.specs.Writes.{Write}
use Rattle.shm_registry.specs.Registered.{Registered, piece_at}
use Rattle.shm_registry.specs.declared.piece.Piece.{Piece}
use Rattle.uuid.specs.Text.{hyphenated_text}

text_of_changes-append : (cpu : ℕ) (first second : List Write)
    → text_of_changes cpu (first ++ second) ≡ text_of_changes cpu first ++ text_of_changes cpu second
text_of_changes-append cpu [] second = refl
text_of_changes-append cpu (write ∷ first) second =
    ap (λ (l : List ℕ). wrote_line cpu write ++ l) (text_of_changes-append cpu first second)
    ∙ sym (append_assoc (wrote_line cpu write) (text_of_changes cpu first) (text_of_changes cpu second))

-- a block more
pub changes_more : (cpu number : ℕ) (before after start text new : List ℕ)
    → text ≡ start ++ text_of_changes cpu (changes_below number before after)
    → new ≡ text ++ text_of_changes cpu (change_at before after number)
    → new ≡ start ++ text_of_changes cpu (changes_below (number + 1) before after)
unfolding changes_below
changes_more cpu number before after start text new so_far more =
    let next : number + 1 ≡ suc number = omega arith in
    more
    ∙ ap (λ (l : List ℕ). l ++ text_of_changes cpu (change_at before after number)) so_far
    ∙ append_assoc start (text_of_changes cpu (changes_below number before after)) (text_of_changes cpu (change_at before after number))
    ∙ ap (λ (l : List ℕ). start ++ l)
    (sym (text_of_changes-append cpu (changes_below number before after) (change_at before after number)))
    ∙ ap (λ n. start ++ text_of_changes cpu (changes_below n before after)) (sym next)

-- a number more
pub texts_more : (number : ℕ) (text : ℕ → List ℕ) (start old new : List ℕ)
    → old ≡ start ++ texts_below number text → new ≡ old ++ text number → new ≡ start ++ texts_below (number + 1) text
unfolding texts_below
texts_more number text start old new so_far more =
    let next : number + 1 ≡ suc number = omega arith in
    more
    ∙ ap (λ (l : List ℕ). l ++ text number) so_far
    ∙ append_assoc start (texts_below number text) (text number)
    ∙ ap (λ n. start ++ texts_below n text) (sym next)

-- an element more
pub told_more : {X : Type 0} (line : X → List ℕ) (xs : List X) (i : ℕ) (x d : X) (start old new : List ℕ)
    → i < length xs → x ≡ get_or xs i d → old ≡ start ++ flat_map line (take i xs) → new ≡ old ++ line x
    → new ≡ start ++ flat_map line (take (i + 1) xs)
told_more {X} line xs i x d start old new below is so_far told =
    told
    ∙ ap (λ (l : List ℕ). l ++ line x) so_far
    ∙ ap (λ (y : X). (start ++ flat_map line (take i xs)) ++ line y) is
    ∙ flat_map_more line start (take i xs) (get_or xs i d)
    ∙ ap (λ (l : List X). start ++ flat_map line l) (sym (take_more xs i d below))

-- ---- the pages of a buffer

abbrev piece_by : ℕ → Registered → ℕ → ℕ → Option Piece → List ℕ
piece_by more registered cookie offset found =
    text_if (λ (piece : Piece). piece_line piece ++ piece_lines more registered cookie (offset + piece.len)) found

piece_opened : (left more : ℕ) (registered : Registered) (cookie offset : ℕ) (found : Option Piece) → left ≡ suc more
    → found ≡ piece_at registered.buffers cookie offset → piece_lines left registered cookie offset ≡ piece_by more registered cookie offset found
unfolding piece_lines
piece_opened left more registered cookie offset found is there =
    ap (λ n. piece_lines n registered cookie offset) is ∙ ap (piece_by more registered cookie offset) (sym there)

-- a page more, and what is left
pub pieces_more : (page : ℕ) (registered : Registered) (cookie offset : ℕ) (piece : Piece) (old new total : List ℕ) → page < 1024
    → Some piece ≡ piece_at registered.buffers cookie offset
    → old ++ piece_lines (1024 - page) registered cookie offset ≡ total
    → new ≡ old ++ piece_line piece
    → new ++ piece_lines (1024 - (page + 1)) registered cookie (offset + piece.len) ≡ total
pieces_more page registered cookie offset piece old new total below there so_far more =
    let next : 1024 - page ≡ suc (1024 - (page + 1)) = omega arith in
    let rest : List ℕ = piece_lines (1024 - (page + 1)) registered cookie (offset + piece.len) in
    ap (λ (l : List ℕ). l ++ rest) more
    ∙ append_assoc old (piece_line piece) rest
    ∙ ap (λ (l : List ℕ). old ++ l) (sym (piece_opened (1024 - page) (1024 - (page + 1)) registered cookie offset (Some piece) next there))
    ∙ so_far

-- there is none more
pub pieces_over : (page : ℕ) (registered : Registered) (cookie offset : ℕ) (old total : List ℕ) → page < 1024
    → None ≡ piece_at registered.buffers cookie offset
    → old ++ piece_lines (1024 - page) registered cookie offset ≡ total → old ≡ total
pieces_over page registered cookie offset old total below there so_far =
    let next : 1024 - page ≡ suc (1024 - (page + 1)) = omega arith in
    sym (append-nil old)
    ∙ ap (λ (l : List ℕ). old ++ l) (sym (piece_opened (1024 - page) (1024 - (page + 1)) registered cookie offset None next there))
    ∙ so_far

-- as many as there can be
pub pieces_full : (registered : Registered) (cookie offset : ℕ) (old total : List ℕ)
    → old ++ piece_lines 0 registered cookie offset ≡ total → old ≡ total
unfolding piece_lines
pieces_full registered cookie offset old total so_far = sym (append-nil old) ∙ so_far

-- ---- blocks

pub other_block : (cpu number : ℕ) (before after was is old new : List ℕ) → was ≡ block_at before number → is ≡ block_at after number
    → bytes_eq was is ≡ false → new ≡ old ++ wrote_line cpu (record { addr = 0x40000000 + 64 * number; bytes = is })
    → new ≡ old ++ text_of_changes cpu (change_at before after number)
other_block cpu number before after was is old new there here other told =
    let so : bytes_eq (block_at before number) (block_at after number) ≡ false =
    ap₂ bytes_eq (sym there) (sym here) ∙ other in
    let line : List ℕ = wrote_line cpu (record { addr = 0x40000000 + 64 * number; bytes = block_at after number }) in
    rw so (
    told
    ∙ ap (λ (bytes : List ℕ). old ++ wrote_line cpu (record { addr = 0x40000000 + 64 * number; bytes = bytes })) here
    ∙ ap (λ (l : List ℕ). old ++ l) (sym (append-nil line))
    )

pub changed_block : {E : Type 0} (result : Result (Unit {0}) E) (cpu number : ℕ) (before after was is old new : List ℕ)
    → was ≡ block_at before number → is ≡ block_at after number → false ≡ bytes_eq was is
    → OnOk result (new ≡ old ++ wrote_line cpu (record { addr = 0x40000000 + 64 * number; bytes = is }))
    → OnOk result (new ≡ old ++ text_of_changes cpu (change_at before after number))
changed_block (Ok done) cpu number before after was is old new there here other told =
    other_block cpu number before after was is old new there here (sym other) told
changed_block (Err fault) cpu number before after was is old new there here other told = tt

pub unchanged_block : (cpu number : ℕ) (before after was is old : List ℕ) → was ≡ block_at before number → is ≡ block_at after number
    → true ≡ bytes_eq was is → old ≡ old ++ text_of_changes cpu (change_at before after number)
unchanged_block cpu number before after was is old there here same =
    let so : bytes_eq (block_at before number) (block_at after number) ≡ true = ap₂ bytes_eq (sym there) (sym here) ∙ sym same in
    rw so (sym (append-nil old))

-- ---- instances

-- behind what stands there already
pub more : (t0 a t b t1 : List ℕ) → t ≡ t0 ++ a → t1 ≡ t ++ b → t1 ≡ t0 ++ (a ++ b)
more t0 a t b t1 one two = two ∙ ap (λ (l : List ℕ). l ++ b) one ∙ append_assoc t0 a b

pub instance_told : (tables : Tables) (number : ℕ) (instance : Instance) (users : ℕ) (t0 t1 t2 t3 t4 t5 t6 : List ℕ)
    → users ≡ users_of tables number
    → t1 ≡ t0 ++ codes "instance " ++ decimal number → t2 ≡ t1 ++ 32 ∷ hyphenated_text 97 instance.uuid
    → t3 ≡ t2 ++ codes " users " ++ decimal users → t4 ≡ t3 ++ holder_text instance.holder
    → t5 ≡ t4 ++ life_text instance.dead → t6 ≡ t5 ++ 10 ∷ [] → t6 ≡ t0 ++ instance_line tables number instance
instance_told tables number instance users t0 t1 t2 t3 t4 t5 t6 is s1 s2 s3 s4 s5 s6 =
    let a : List ℕ = codes "instance " ++ decimal number in
    let b : List ℕ = 32 ∷ hyphenated_text 97 instance.uuid in
    let d : List ℕ = numbered (codes "users") users in
    let e : List ℕ = holder_text instance.holder in
    let f : List ℕ = life_text instance.dead in
    let first : t1 ≡ t0 ++ a = s1 ∙ append_assoc t0 (codes "instance ") (decimal number) in
    let third : t3 ≡ t2 ++ d = s3 ∙ append_assoc t2 (codes " users ") (decimal users) in
    more t0 (a ++ b ++ d ++ e ++ f) t5 (10 ∷ []) t6
    (more t0 (a ++ b ++ d ++ e) t4 f t5 (more t0 (a ++ b ++ d) t3 e t4 (more t0 (a ++ b) t2 d t3 (more t0 a t1 b t2 first s2) third) s4) s5)
    s6
    ∙ ap (λ n. t0 ++ (a ++ b ++ numbered (codes "users") n ++ e ++ f ++ 10 ∷ [])) is

-- ---- events

some_same : (one other : Event) → Some one ≡ Some other → one ≡ other
some_same one other e = cc

none_some : (one : Event) → None ≡ Some one → ⊥
none_some one e = cc

-- none has read more than all
pub event_read : (events : List Event) (at : ℕ) (event : Event) → slice_get events at ≡ Some event
    → copied_by event ≤ copied_bytes events
event_read events at event is = elim (slice_get_cases events at).1 [
  | inl there ↦
      let same : copied_by (get_or events at there.0) ≡ copied_by event =
      ap copied_by (there.3 ∙ some_same there.0 event (sym there.2 ∙ is)) in
      rw same at (get_or-le-sum_by copied_by events at there.0 there.1)
  | inr past ↦ absurd (none_some event (sym past.1 ∙ is))
]
