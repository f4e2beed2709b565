-- From one item to the next, and from the items to the play of a trace.
use Rattle.std.proofs.Common.{◌≡◌, ℕ, suc, ◌+◌, ◌<◌, List, [], ◌∷◌, ◌++◌, length, take, drop, get_or, Option, Some, None, refl, sym, ap, ◌∙◌, add-one}
use Rattle.std.proofs.Common.{drop-cons}
use Rattle.std.specs.Option.{option_and_then, option_map_or}
use Rattle.std.proofs.lemmas.Grind.{flat_map-append}
use Rattle.std.proofs.Math.Seq.{take-suc}
use Rattle.std.proofs.lemmas.List.{append-nil, take-append-drop}
use Rattle.event_journal.specs.declared.event.Event.TheVariants.{Entry}
use Rattle.kernel_model.specs.Application.{Booted}
use Rattle.kernel_model.specs.Kernel.{Visit}
use Rattle.play_model.specs.Line.{Line, text_of_line}
use Rattle.play_model.specs.Play.{Play, after_item, after_items, enters}
use Rattle.play_model.specs.Text.{text_of_play}
use Rattle.play_model.proofs.Entries.{CameIn, Entered, WasRefused, entered}
use Rattle.play_model.proofs.LinesStay.{event_prints, plays_go_on}
use Rattle.trace_text.specs.declared.item.Item.{Item}
use Rattle.trace_player.specs.Playing.{IsPlayedTo, Prints, text_of_lines}
use Rattle.trace_player.specs.declared.player.Player.{Player}

-- ---- entries

entered-lines : (boot : Booted) (visit : Visit) (play next : Play) → Entered boot visit play next
    → next.lines ≡ play.lines
entered-lines boot visit play next (CameIn reads few came) =
    event_prints boot (Entry visit.cpu (record { a = visit.regs }) visit.steps reads) play next came
entered-lines boot visit play next (WasRefused reads much is) = ap (λ (p : Play). p.lines) (sym is)

-- an entry prints nothing
pub enters-lines : (boot : Booted) (visit : Visit) (play next : Play) → enters boot play visit ≡ Some next
    → next.lines ≡ play.lines
enters-lines boot visit play next e = entered-lines boot visit play next (entered boot visit play next e)

-- ---- what is printed

pub one-line : (line : Line) → text_of_lines (line ∷ []) ≡ text_of_line line
one-line line = append-nil (text_of_line line)

-- ---- items

-- once an entry was refused, nothing follows
items-refused : (boot : Booted) (items : List Item) (play : Play) (more : ℕ) → play.refused ≡ Some more
    → after_items boot items play ≡ Some play
items-refused boot [] play more is = refl
items-refused boot (i ∷ items) play more is =
    ap (λ (o : Option ℕ). option_and_then (λ next. after_items boot items next)
    (option_map_or (λ m. Some play) o (after_item boot i play))) is
    ∙ items-refused boot items play more is

-- the first item, and then the others
pub items-first : (boot : Booted) (i : Item) (items : List Item) (play : Play) → play.refused ≡ None
    → after_items boot (i ∷ items) play ≡ option_and_then (λ next. after_items boot items next) (after_item boot i play)
items-first boot i items play is =
    ap (λ (o : Option ℕ). option_and_then (λ next. after_items boot items next)
    (option_map_or (λ m. Some play) o (after_item boot i play))) is

-- the items up to one, that one and those behind it
pub items-split : (items : List Item) (at : ℕ) (item : Item) → at < length items → item ≡ get_or items at item
    → take at items ++ (item ∷ drop (at + 1) items) ≡ items
items-split items at item lt is =
    ap (λ (l : List Item). take at items ++ l)
    (sym (drop-cons items at item lt ∙ ap (λ (x : Item). x ∷ drop (suc at) items) (sym is)
    ∙ ap (λ (k : ℕ). item ∷ drop k items) (sym (add-one at))))
    ∙ take-append-drop at items

-- the items so far were played, and this is the text of their lines
pub record Written (boot : Booted) (first : Play) (items : List Item) (at : ℕ) (player : Player) (text : List ℕ)
    : Type 0 where
  pub play : Play
  pub taken : after_items boot (take at items) first ≡ Some play
  pub stands : IsPlayedTo boot play player
  pub printed : text ≡ text_of_play play

-- what the next item comes to decides the rest
rest-from : (boot : Booted) (first : Play) (items : List Item) (at : ℕ) (item : Item) (play : Play)
    → at < length items → item ≡ get_or items at item
    → after_items boot (take at items) first ≡ Some play → play.refused ≡ None
    → after_items boot items first ≡ option_and_then (λ next. after_items boot (drop (at + 1) items) next)
    (after_item boot item play)
rest-from boot first items at item play lt is taken going =
    let rest = drop (at + 1) items in
    ap (λ (l : List Item). after_items boot l first) (sym (items-split items at item lt is))
    ∙ plays_go_on.onward boot (take at items) (item ∷ rest) first
    ∙ ap (λ (o : Option Play). option_and_then (λ next. after_items boot (item ∷ rest) next) o) taken
    ∙ items-first boot item rest play going

pub take-more : {A : Type 0} (items : List A) (at : ℕ) (item : A) → at < length items → item ≡ get_or items at item
    → take (at + 1) items ≡ take at items ++ item ∷ []
take-more {A} items at item lt is =
    ap (λ (k : ℕ). take k items) (add-one at) ∙ take-suc items at item lt
    ∙ ap (λ (x : A). take at items ++ x ∷ []) (sym is)

pub Written-more : (boot : Booted) (first : Play) (items : List Item) (at : ℕ) (item : Item) (before after : Player)
    (text more : List ℕ) → at < length items → item ≡ get_or items at item
    → (w : Written boot first items at before text) → (next : Play) → after_item boot item w.play ≡ Some next
    → IsPlayedTo boot next after → Prints w.play next text more
    → Written boot first items (at + 1) after more
Written-more boot first items at item before after text more lt is w next comes stands prints = record {
  play = next;
  taken =
      ap (λ (l : List Item). after_items boot l first) (take-more items at item lt is)
      ∙ plays_go_on.onward boot (take at items) (item ∷ []) first
      ∙ ap (λ (o : Option Play). option_and_then (λ (p : Play). after_items boot (item ∷ []) p) o) w.taken
      ∙ items-first boot item [] w.play w.stands.machine.goes_on
      ∙ ap (λ (o : Option Play). option_and_then (λ (p : Play). Some p) o) comes;
  stands = stands;
  printed =
      let whole : text_of_play next ≡ text_of_play w.play ++ text_of_lines prints.0 =
      ap text_of_lines prints.1 ∙ flat_map-append text_of_line w.play.lines prints.0 in
      prints.2 ∙ ap (λ (t : List ℕ). t ++ text_of_lines prints.0) w.printed ∙ sym whole;
}

-- an item whose entry is refused ends the play
pub Written-refused : (boot : Booted) (first : Play) (items : List Item) (at : ℕ) (item : Item) (player : Player)
    (text : List ℕ) (more : ℕ) → at < length items → item ≡ get_or items at item
    → (w : Written boot first items at player text)
    → after_item boot item w.play ≡ Some (record w.play { refused = Some more })
    → after_items boot items first ≡ Some (record w.play { refused = Some more })
Written-refused boot first items at item player text more lt is w refused =
    rest-from boot first items at item w.play lt is w.taken w.stands.machine.goes_on
    ∙ ap (λ (o : Option Play). option_and_then (λ next. after_items boot (drop (at + 1) items) next) o) refused
    ∙ items-refused boot (drop (at + 1) items) (record w.play { refused = Some more }) more refl

-- the text so far is a part of all, from its front
pub Written-part : (boot : Booted) (first : Play) (items : List Item) (at : ℕ) (player : Player) (text : List ℕ)
    (final : Play) → (w : Written boot first items at player text) → after_items boot items first ≡ Some final
    → (rest : List ℕ) × (text_of_play final ≡ text ++ rest)
Written-part boot first items at player text final w whole =
    let onward : after_items boot (drop at items) w.play ≡ Some final =
    ap (λ (o : Option Play). option_and_then (λ next. after_items boot (drop at items) next) o) (sym w.taken)
    ∙ sym (plays_go_on.onward boot (take at items) (drop at items) first)
    ∙ ap (λ (l : List Item). after_items boot l first) (take-append-drop at items) ∙ whole in
    let more = plays_go_on.printed boot (drop at items) w.play final onward in (
      text_of_lines more.0,
      ap text_of_lines more.1 ∙ flat_map-append text_of_line w.play.lines more.0
          ∙ ap (λ (t : List ℕ). t ++ text_of_lines more.0) (sym w.printed),
    )
