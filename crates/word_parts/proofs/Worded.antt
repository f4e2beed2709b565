-- From what was read, played and answered to what a word says of it.
use Rattle.std.proofs.Common.{◌≡◌, ℕ, ◌⊎◌, inl, inr, List, [], ◌++◌, Option, Some, None, refl, sym, ap, subst, ◌∙◌, arith}
use Rattle.std.specs.Prelude.{IfSome, IsSomeAnd, Result, Ok, Err}
use Rattle.std.proofs.lemmas.List.{append-nil}
use Rattle.ports.specs.Port.{Appends, Rose}
use Rattle.ports.specs.PortLaws.{Appends-nil}
use Rattle.trace_text.specs.declared.fault.BadKind.{BadKind}
use Rattle.trace_text.specs.declared.fault.TraceFault.{TraceFault}
use Rattle.trace_text.specs.declared.fault.TraceFault.TheVariants as fault
use Rattle.word_parts.specs.Answer.{AnswersFault, IsTold, Writes, status_of, status_of_play}
use Rattle.word_parts.specs.Input.{IsReadWhole, IsTooLong, IsUnreadAs}
use Rattle.word_parts.specs.Line.{bad_trace_line}
use Rattle.word_parts.specs.Output.{AppendsPart}
use Rattle.word_parts.specs.Keeping.{Keeps}
use Rattle.word_parts.specs.Word.{Answered, CanBeRefused, CanBeServed, HasOneMeaning, IsBad, IsDone, IsRefusedWhole, IsServedBy, IsServedWhole, IsTooMuch, IsUnservedAs, Ran, RanAs, Statuses, Word, WritesPart, WritesText}
use Rattle.word_parts.proofs.Answering.{is-short, long-refused, ok-refused, other-status, refused-status, writes-named, writes-part, writes-whole}
use Rattle.word_parts.specs.declared.stop.Stop.{Stop}
use Rattle.word_parts.specs.declared.stop.Stop.TheVariants.{Full, Failed}
use Rattle.word_parts.specs.declared.stop.Stop.TheVariants as stop
use Rattle.word_parts.specs.declared.status.Status.TheVariants.{BadTrace, ReadFault, WriteFault, Memory, TooLong}
use Rattle.word_parts.specs.declared.status.Status.TheVariants as status
use Rattle.word_parts.specs.declared.status.Status.{Status}

-- ---- reading

-- an input that was read to its end is the bytes that were read
pub ran-read : (IsAnswered : List ℕ → Type 0) (told left : Option (List ℕ)) (bytes : List ℕ) (result : Status)
    (old new : Option (List ℕ)) → IsReadWhole bytes told left → IsAnswered bytes
    → IfSome told (λ input. RanAs input (IsAnswered input) left result old new)
ran-read IsAnswered (Some l) (Some r) bytes result old new whole answered =
    let same : bytes ≡ l = sym (append-nil bytes) ∙ ap (λ (x : List ℕ). bytes ++ x) (sym whole.ended) ∙ sym whole.moved in
    subst (λ (x : List ℕ). RanAs x (IsAnswered x) (Some r) result old new) same
    (inr (inr (whole.short, ap (λ (x : List ℕ). Some x) whole.ended, answered)))
ran-read IsAnswered None None bytes result old new whole answered = tt
ran-read IsAnswered (Some l) None bytes result old new whole answered = absurd whole.moved
ran-read IsAnswered None (Some r) bytes result old new whole answered = absurd whole.moved

-- an input that wasn't read whole
pub ran-unread : (IsAnswered : List ℕ → Type 0) (told left : Option (List ℕ)) (result : Status) (held : Option (List ℕ))
    → IfSome told (IsUnreadAs result) → IfSome told (λ input. RanAs input (IsAnswered input) left result held held)
ran-unread IsAnswered (Some input) left result held (inl fault) = inl (inl fault, Appends-nil held)
ran-unread IsAnswered (Some input) left result held (inr (inl want)) = inl (inr want, Appends-nil held)
ran-unread IsAnswered (Some input) left result held (inr (inr long)) = inr (inl (long.0, long.1, Appends-nil held))
ran-unread IsAnswered None left result held unread = tt

-- what says how an input within the limit was answered says it of each
pub told-answered : (IsAnswered Says : List ℕ → Type 0) (told left : Option (List ℕ)) (result : Status) (old new : Option (List ℕ))
    → ((input : List ℕ) → IsAnswered input → Says input)
    → IfSome told (λ input. RanAs input (IsAnswered input) left result old new)
    → IfSome told (λ input. RanAs input (Says input) left result old new)
told-answered IsAnswered Says (Some input) left result old new says (inl unread) = inl unread
told-answered IsAnswered Says (Some input) left result old new says (inr (inl long)) = inr (inl long)
told-answered IsAnswered Says (Some input) left result old new says (inr (inr (short, ended, answered))) =
    inr (inr (short, ended, says input answered))
told-answered IsAnswered Says None left result old new says ran = tt

-- ---- answering

-- a fault that was answered is the input's first in the word's grammar, or memory ran out
pub fault-refused : (word : Word) (input : List ℕ) (why : TraceFault) (result : Status) (old new : Option (List ℕ))
    → ((place : ℕ) (kind : BadKind) → why ≡ fault.Bad place kind → word.IsFirstFault input place kind)
    → AnswersFault why result old new → IsUnservedAs word input result old new
fault-refused word input (fault.Bad place kind) result old new first line =
    inr (record { place = place; kind = kind; first = first place kind refl; line = line })
fault-refused word input fault.Memory result old new first want = inl want

-- what isn't served is answered so
pub unserved-answered : (word : Word) (input : List ℕ) (result : Status) (old new : Option (List ℕ))
    → IsUnservedAs word input result old new → Answered word input result old new
unserved-answered word input result old new (inl want) = inl want
unserved-answered word input result old new (inr refused) = inr (inl refused)

-- an option that has something has this
pub some-and : {X : Type 0} (P : X → Type 0) (o : Option X) → IsSomeAnd o P → (x : X) × (o ≡ Some x) × P x
some-and P (Some x) p = (x, refl, p)
some-and P None p = absurd p

and-more : {X : Type 0} (P Q : X → Type 0) (o : Option X) → ((x : X) → P x → Q x) → IsSomeAnd o P → IsSomeAnd o Q
and-more P Q (Some x) goes p = goes x p
and-more P Q None goes p = absurd p

-- what a play has told is what is written for it
pub told-writes : (word : Word) (content : word.Content) (stopped : Result (Unit {0}) Stop) (old new : Option (List ℕ))
    → IsTold (word.refused_for content) (word.text_for content) stopped old new
    → IsDone word content (status_of stopped) old new
told-writes word content (Ok done) old new told =
    inr (and-more (Appends old new) _ (word.text_for content)
    (λ text put. inl (sym (ap status_of_play told.0), put)) told.1)
told-writes word content (Err Full) old new told =
    inr (and-more (Appends old new) _ (word.text_for content)
    (λ text put. inl (sym (refused-status (word.refused_for content) told.0), put)) told.1)
told-writes word content (Err Failed) old new told =
    inr (and-more (AppendsPart old new) _ (word.text_for content) (λ text part. inr (inl refl, part)) told)
told-writes word content (Err stop.Memory) old new (inl nothing) = inl (refl, nothing)
told-writes word content (Err stop.Memory) old new (inr told) =
    inr (and-more (AppendsPart old new) _ (word.text_for content) (λ text part. inr (inr refl, part)) told)

-- ---- each status

-- at 0
served-ok : (word : Word) (input : List ℕ) (content : word.Content) (old new : Option (List ℕ))
    → (IsTooLong input → ⊥) → word.Spells input content
    → IsServedBy word content status.Ok old new → (other : word.Content) × CanBeServed word input other
    × WritesText word other old new
served-ok word input content old new short spelled (inl many) = let e = many.1 in absurd cc
served-ok word input content old new short spelled (inr (few, inl want)) = let e = want.0 in absurd cc
served-ok word input content old new short spelled (inr (few, inr plays)) =
    let text = some-and _ (word.text_for content) plays in
    let whole = writes-named (status_of_play (word.refused_for content)) text.0 status.Ok old new text.2
    (λ e. absurd cc) (λ e. absurd cc) in (
      content,
      record { short = short; spelled = spelled; few = few; goes_on = ok-refused (word.refused_for content) whole.0 },
      subst (λ (o : Option (List ℕ)). IsSomeAnd o (Appends old new)) (sym text.1) whole.1,
    )

ran-ok : (word : Word) (input : List ℕ) (left : Option (List ℕ)) (old new : Option (List ℕ))
    → Ran word input left status.Ok old new
    → (left ≡ Some []) × ((content : word.Content) × CanBeServed word input content × WritesText word content old new)
ran-ok word input left old new (inl ((inl e), nothing)) = absurd cc
ran-ok word input left old new (inl ((inr e), nothing)) = absurd cc
ran-ok word input left old new (inr (inl long)) = let e = long.0 in absurd cc
ran-ok word input left old new (inr (inr (short, ended, inl want))) = let e = want.0 in absurd cc
ran-ok word input left old new (inr (inr (short, ended, inr (inl refused)))) =
    let whole = writes-named BadTrace (bad_trace_line refused.place refused.kind) status.Ok old new refused.line
    (λ e. absurd cc) (λ e. absurd cc) in
    let e = whole.0 in absurd cc
ran-ok word input left old new (inr (inr (short, ended, inr (inr served)))) = (
  ended,
  served-ok word input served.content old new
      (λ long. absurd (omega (arith, long, short))) served.spelled served.served,
)

-- at TooLong
served-long : (word : Word) (input : List ℕ) (content : word.Content) (old new : Option (List ℕ))
    → word.Spells input content
    → IsServedBy word content TooLong old new → IsTooMuch word input old new
served-long word input content old new spelled (inl many) = inr (inl (content, spelled, many.0, many.2))
served-long word input content old new spelled (inr (few, inl want)) = let e = want.0 in absurd cc
served-long word input content old new spelled (inr (few, inr plays)) =
    let text = some-and _ (word.text_for content) plays in
    let whole = writes-named (status_of_play (word.refused_for content)) text.0 TooLong old new text.2
    (λ e. absurd cc) (λ e. absurd cc) in
    inr (inr (
      content,
      spelled,
      few,
      long-refused (word.refused_for content) whole.0,
      subst (λ (o : Option (List ℕ)). IsSomeAnd o (Appends old new)) (sym text.1) whole.1,
    ))

ran-long : (word : Word) (input : List ℕ) (left : Option (List ℕ)) (old new : Option (List ℕ))
    → Ran word input left TooLong old new → IsTooMuch word input old new
ran-long word input left old new (inl ((inl e), nothing)) = absurd cc
ran-long word input left old new (inl ((inr e), nothing)) = absurd cc
ran-long word input left old new (inr (inl long)) = inl (long.1, long.2)
ran-long word input left old new (inr (inr (short, ended, inl want))) = let e = want.0 in absurd cc
ran-long word input left old new (inr (inr (short, ended, inr (inl refused)))) =
    let whole = writes-named BadTrace (bad_trace_line refused.place refused.kind) TooLong old new refused.line
    (λ e. absurd cc) (λ e. absurd cc) in
    let e = whole.0 in absurd cc
ran-long word input left old new (inr (inr (short, ended, inr (inr served)))) =
    served-long word input served.content old new served.spelled served.served

-- at BadTrace
status-played : (o : Option ℕ) → BadTrace ≡ status_of_play o → ⊥
status-played None e = absurd cc
status-played (Some more) e = absurd cc

served-bad : (word : Word) (content : word.Content) (old new : Option (List ℕ))
    → IsServedBy word content BadTrace old new → ⊥
served-bad word content old new (inl many) = let e = many.1 in absurd cc
served-bad word content old new (inr (few, inl want)) = let e = want.0 in absurd cc
served-bad word content old new (inr (few, inr plays)) =
    let text = some-and _ (word.text_for content) plays in
    let whole = writes-named (status_of_play (word.refused_for content)) text.0 BadTrace old new text.2
    (λ e. absurd cc) (λ e. absurd cc) in
    status-played (word.refused_for content) whole.0

ran-bad : (word : Word) (input : List ℕ) (left : Option (List ℕ)) (old new : Option (List ℕ))
    → Ran word input left BadTrace old new → IsBad word input old new
ran-bad word input left old new (inl ((inl e), nothing)) = absurd cc
ran-bad word input left old new (inl ((inr e), nothing)) = absurd cc
ran-bad word input left old new (inr (inl long)) = let e = long.0 in absurd cc
ran-bad word input left old new (inr (inr (short, ended, inl want))) = let e = want.0 in absurd cc
ran-bad word input left old new (inr (inr (short, ended, inr (inl refused)))) =
    let whole = writes-named BadTrace (bad_trace_line refused.place refused.kind) BadTrace old new refused.line
    (λ e. absurd cc) (λ e. absurd cc) in
    (λ long. absurd (omega (arith, long, short)), (refused.place, refused.kind, refused.first, whole.1))
ran-bad word input left old new (inr (inr (short, ended, inr (inr served)))) =
    absurd (served-bad word served.content old new served.served)

-- at WriteFault and Memory
served-part : (word : Word) (input : List ℕ) (content : word.Content) (result : Status) (old new : Option (List ℕ))
    → word.Spells input content
    → (result ≡ WriteFault) ⊎ (result ≡ Memory) → IsServedBy word content result old new
    → WritesPart word input old new
served-part word input content result old new spelled short (inl many) = inl many.2
served-part word input content result old new spelled short (inr (few, inl want)) = inl want.1
served-part word input content result old new spelled short (inr (few, inr plays)) =
    inr (inr (
      content,
      spelled,
      and-more _ (AppendsPart old new) (word.text_for content)
          (λ text writes. writes-part (status_of_play (word.refused_for content)) text result old new writes
          (other-status (word.refused_for content) result (is-short result short)))
          plays,
    ))

ran-part : (word : Word) (input : List ℕ) (left : Option (List ℕ)) (result : Status)
    (old new : Option (List ℕ)) → Ran word input left result old new
    → (result ≡ WriteFault) ⊎ (result ≡ Memory) → WritesPart word input old new
ran-part word input left result old new (inl unread) short = inl unread.1
ran-part word input left result old new (inr (inl long)) short = inl long.2
ran-part word input left result old new (inr (inr (few, ended, inl want))) short = inl want.1
ran-part word input left result old new (inr (inr (few, ended, inr (inl refused)))) short =
    inr (inl (
      refused.place,
      refused.kind,
      refused.first,
      writes-part BadTrace (bad_trace_line refused.place refused.kind) result old new refused.line
          (is-short result short).1,
    ))
ran-part word input left result old new (inr (inr (few, ended, inr (inr served)))) short =
    served-part word input served.content result old new served.spelled short served.served

-- all of them
pub ran-statuses : (word : Word) (input : List ℕ) (left : Option (List ℕ)) (result : Status)
    (old new : Option (List ℕ)) → Ran word input left result old new → Statuses word input left result old new
ran-statuses word input left result old new ran = record {
  ok = λ e. ran-ok word input left old new (subst (λ (s : Status). Ran word input left s old new) e ran);
  too_long = λ e. ran-long word input left old new (subst (λ (s : Status). Ran word input left s old new) e ran);
  bad_trace = λ e. ran-bad word input left old new (subst (λ (s : Status). Ran word input left s old new) e ran);
  part = ran-part word input left result old new ran;
}

-- ---- completeness

whole-some : (word : Word) (content : word.Content) (result : Status) (old new : Option (List ℕ)) (text : List ℕ)
    → word.text_for content ≡ Some text
    → ((result ≡ status.Ok) × Appends old new text) ⊎ (result ≡ Memory) → IsServedWhole word content result old new
    ⊎ (result ≡ Memory)
whole-some word content result old new text e (inl whole) =
    inl (whole.0, subst (λ (o : Option (List ℕ)). IsSomeAnd o (Appends old new)) (sym e) whole.1)
whole-some word content result old new text e (inr want) = inr want

served-whole : (word : Word) (content : word.Content) (result : Status) (old new : Option (List ℕ))
    → (word.IsTooLarge content → ⊥) → word.refused_for content ≡ None → (result ≡ WriteFault → ⊥)
    → IsServedBy word content result old new → IsServedWhole word content result old new ⊎ (result ≡ Memory)
served-whole word content result old new few going no_fault (inl many) = absurd (few many.0)
served-whole word content result old new few going no_fault (inr (less, inl want)) = inr want.0
served-whole word content result old new few going no_fault (inr (less, inr plays)) =
    let text = some-and _ (word.text_for content) plays in
    let writes = subst (λ (o : Option ℕ). Writes (status_of_play o) text.0 result old new) going text.2 in
    whole-some word content result old new text.0 text.1 (writes-whole text.0 result old new writes no_fault)

ran-whole : (word : Word) (input : List ℕ) (left : Option (List ℕ)) (result : Status)
    (old new : Option (List ℕ)) (content : word.Content) → ((input : List ℕ) → HasOneMeaning word input) → CanBeServed word input content
    → (result ≡ ReadFault → ⊥) → (result ≡ WriteFault → ⊥) → Ran word input left result old new
    → IsServedWhole word content result old new ⊎ (result ≡ Memory)
ran-whole word input left result old new content every can no_read no_write (inl ((inl fault), nothing)) =
    absurd (no_read fault)
ran-whole word input left result old new content every can no_read no_write (inl ((inr want), nothing)) = inr want
ran-whole word input left result old new content every can no_read no_write (inr (inl long)) =
    absurd (can.short long.1)
ran-whole word input left result old new content every can no_read no_write (inr (inr (short, ended, inl want))) =
    inr want.0
ran-whole word input left result old new content every can no_read no_write
    (inr (inr (short, ended, inr (inl refused)))) =
    absurd ((every input).not_both content refused.place refused.kind can.spelled refused.first)
ran-whole word input left result old new content every can no_read no_write
    (inr (inr (short, ended, inr (inr served)))) =
    let same = (every input).one_content served.content content served.spelled can.spelled in
    served-whole word content result old new can.few can.goes_on no_write
    (subst (λ (c : word.Content). IsServedBy word c result old new) same served.served)

-- an input that can be served is, where no port has failed
pub told-whole : (word : Word) (told left : Option (List ℕ)) (result : Status) (old new : Option (List ℕ))
    (a b c d : ℕ) → ((input : List ℕ) → HasOneMeaning word input)
    → (result ≡ ReadFault → Rose a b) → (result ≡ WriteFault → Rose c d)
    → IfSome told (λ input. Ran word input left result old new)
    → IfSome told (λ input. (content : word.Content) → CanBeServed word input content → (Rose a b → ⊥) → (Rose c d → ⊥)
    → IsServedWhole word content result old new ⊎ (result ≡ Memory))
told-whole word (Some input) left result old new a b c d every read write ran = λ content can no_read no_write.
    ran-whole word input left result old new content every can (λ e. no_read (read e)) (λ e. no_write (write e)) ran
told-whole word None left result old new a b c d every read write ran = tt

-- ---- inputs that leave their grammar

ran-refused : (word : Word) (input : List ℕ) (left : Option (List ℕ)) (result : Status)
    (old new : Option (List ℕ)) → CanBeRefused word input
    → (result ≡ ReadFault → ⊥) → (result ≡ WriteFault → ⊥) → Ran word input left result old new
    → IsRefusedWhole word input result old new ⊎ (result ≡ Memory)
ran-refused word input left result old new can no_read no_write (inl ((inl fault), nothing)) =
    absurd (no_read fault)
ran-refused word input left result old new can no_read no_write (inl ((inr want), nothing)) = inr want
ran-refused word input left result old new can no_read no_write (inr (inl long)) = absurd (can.short long.1)
ran-refused word input left result old new can no_read no_write (inr (inr (short, ended, inl want))) =
    inr want.0
ran-refused word input left result old new can no_read no_write
    (inr (inr (short, ended, inr (inl refused)))) = by_line refused.line
  where
    by_line : Writes BadTrace (bad_trace_line refused.place refused.kind) result old new
        → IsRefusedWhole word input result old new ⊎ (result ≡ Memory)
    by_line (inl whole) = inl (whole.0, (can.short, (refused.place, refused.kind, refused.first, whole.1)))
    by_line (inr ((inl fault), part)) = absurd (no_write fault)
    by_line (inr ((inr want), part)) = inr want
ran-refused word input left result old new can no_read no_write
    (inr (inr (short, ended, inr (inr served)))) =
    absurd (can.spells_nothing served.content served.spelled)

-- an input that leaves its grammar is answered by its first fault, where no port has failed
pub told-refused : (word : Word) (told left : Option (List ℕ)) (result : Status)
    (old new : Option (List ℕ)) (a b c d : ℕ)
    → (result ≡ ReadFault → Rose a b) → (result ≡ WriteFault → Rose c d)
    → IfSome told (λ input. Ran word input left result old new)
    → IfSome told (λ input. CanBeRefused word input → (Rose a b → ⊥) → (Rose c d → ⊥)
    → IsRefusedWhole word input result old new ⊎ (result ≡ Memory))
told-refused word (Some input) left result old new a b c d read write ran = λ can no_read no_write.
    ran-refused word input left result old new can (λ e. no_read (read e)) (λ e. no_write (write e)) ran
told-refused word None left result old new a b c d read write ran = tt

-- ---- all that a word keeps to

-- an answer is never a fault of the source
not-read : (named result : Status) (text : List ℕ) (old new : Option (List ℕ)) → (named ≡ ReadFault → ⊥)
    → Writes named text result old new → result ≡ ReadFault → ⊥
not-read named result text old new other (inl whole) e = other (sym whole.0 ∙ e)
not-read named result text old new other (inr ((inl fault), part)) e = let is = sym fault ∙ e in absurd cc
not-read named result text old new other (inr ((inr want), part)) e = let is = sym want ∙ e in absurd cc

play-not-read : (o : Option ℕ) → status_of_play o ≡ ReadFault → ⊥
play-not-read None e = absurd cc
play-not-read (Some more) e = absurd cc

pub answer-not-read : (word : Word) (input : List ℕ) (result : Status) (old new : Option (List ℕ))
    → Answered word input result old new → result ≡ ReadFault → ⊥
answer-not-read word input result old new (inl want) e = let is = sym want.0 ∙ e in absurd cc
answer-not-read word input result old new (inr (inl refused)) e =
    not-read BadTrace result (bad_trace_line refused.place refused.kind) old new (λ other. absurd cc) refused.line e
answer-not-read word input result old new (inr (inr served)) e = by_content served.content served.served
  where
    by_content : (content : word.Content) → IsServedBy word content result old new → ⊥
    by_content content (inl many) = let is = sym many.1 ∙ e in absurd cc
    by_content content (inr (few, inl want)) = let is = sym want.0 ∙ e in absurd cc
    by_content content (inr (few, inr writes)) =
        let text = some-and _ (word.text_for content) writes in
        not-read (status_of_play (word.refused_for content)) result text.0 old new
        (play-not-read (word.refused_for content)) text.2 e

-- over an input that the source tells, where the counts of its faults and of the sink's were these before and after
pub keeps : (word : Word) (told left : Option (List ℕ)) (result : Status) (old new : Option (List ℕ)) (a b c d : ℕ)
    → ((input : List ℕ) → HasOneMeaning word input) → (result ≡ ReadFault → Rose a b) → (result ≡ WriteFault → Rose c d)
    → IfSome told (λ input. Ran word input left result old new)
    → IfSome told (λ input. Keeps word input left result old new ((Rose a b → ⊥) × (Rose c d → ⊥)))
keeps word (Some input) left result old new a b c d every read write ran = record {
  ran = ran;
  statuses = ran-statuses word input left result old new ran;
  complete = λ content can no_fault.
      told-whole word (Some input) left result old new a b c d every read write ran content can no_fault.0 no_fault.1;
  refuses = λ can no_fault.
      told-refused word (Some input) left result old new a b c d read write ran can no_fault.0 no_fault.1;
}
keeps word None left result old new a b c d every read write ran = tt
