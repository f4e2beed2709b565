-- A reader over a lane is that reader over the reads that it takes there.
use Rattle.std.proofs.Common.{◌≡◌, ℕ, List, [], ◌∷◌, ◌++◌, Option, Some, None, length, ◌*◌, refl, sym, ◌∙◌, ap, append_assoc, append-nil}
use Rattle.std.specs.Option.{option_and_then}
use Rattle.std.proofs.lemmas.Option.{option_and_then_some}
use Rattle.ns_ram.specs.declared.read.Read.{Read}
use Rattle.ns_ram.specs.Lane.{bytes_at}
use Rattle.ns_ram.specs.Reads.{listed, HoldsReads}
use Rattle.ns_ram.specs.Reader.{Reader, done, want_bytes, want_words, ◌>>=◌, next_bytes, next_words, over_reads, lane_bytes, lane_words, over_lane, if_used_up, IsReadFromLane, AddsItsReads, RunsInTurn}
use Rattle.ns_ram.proofs.ReaderSteps.{HoldsReads-append, HoldsReads-parts, HoldsReads-listed, listed-HoldsReads, lane_bytes-some, lane_bytes-held, next_bytes-listed, next_bytes-some, lane_words-some, lane_words-held, next_words-listed, next_words-some}

-- the reads that the reader takes over the lane, and that the same value comes of them
pub record Taken (A : Type 0) (reader : Reader A) (lane : List ℕ) (before after : List Read) (value : A) : Type 0 where
  pub taken : List Read
  pub appended : after ≡ before ++ taken
  pub held : HoldsReads lane taken
  pub same : (rest : List Read) → over_reads reader (taken ++ rest) ≡ Some (value, rest)

pub over_lane-taken : {A : Type 0} (reader : Reader A) (lane : List ℕ) (before after : List Read) (value : A) →
    over_lane reader lane before ≡ Some (value, after) → Taken A reader lane before after value
over_lane-taken {A} (done v) lane before after value e =
    let ends : (v, before) ≡ (value, after) = cc in
    record {
      taken = [];
      appended = sym (append-nil before ∙ ap (λ (p : A × List Read). p.1) ends);
      held = tt;
      same = λ rest. ap (λ (p : A × List Read). Some (p.0, rest)) ends;
    }
over_lane-taken {A} (want_bytes addr len next) lane before after value e =
    option_and_then_some _ (lane_bytes lane addr len) (value, after) e
    (λ (got : List ℕ) there onward.
    let h = lane_bytes-some lane addr len got there in
    let held : bytes_at lane addr (length got) ≡ got = rw h.1 (sym h.0) in
    let read = listed addr got in
    let t = over_lane-taken (next got) lane (before ++ read) after value onward in
    record {
      taken = read ++ t.taken;
      appended = t.appended ∙ append_assoc before read t.taken;
      held = HoldsReads-append lane read t.taken (HoldsReads-listed lane addr got held) t.held;
      same = λ rest. rw (append_assoc read t.taken rest, next_bytes-listed addr len got (t.taken ++ rest) h.1) (t.same rest);
    })
over_lane-taken {A} (want_words addr most test next) lane before after value e =
    option_and_then_some _ (lane_words lane addr most test) (value, after) e
    (λ (got : List ℕ) there onward.
    let bytes = bytes_at lane addr (8 * length got) in
    let h = lane_words-some lane addr most test got there in
    let held : bytes_at lane addr (length bytes) ≡ bytes = ap (λ n. bytes_at lane addr n) h.length_is in
    let read = listed addr bytes in
    let t = over_lane-taken (next got) lane (before ++ read) after value onward in
    record {
      taken = read ++ t.taken;
      appended = t.appended ∙ append_assoc before read t.taken;
      held = HoldsReads-append lane read t.taken (HoldsReads-listed lane addr bytes held) t.held;
      same = λ rest. rw (append_assoc read t.taken rest, next_words-listed addr most test got bytes (t.taken ++ rest) h) (t.same rest);
    })

-- the reads that the reader takes from a list, and that a lane which holds them gives the same value
pub record Given (A : Type 0) (reader : Reader A) (reads rest : List Read) (value : A) : Type 0 where
  pub given : List Read
  pub front : reads ≡ given ++ rest
  pub same : (lane : List ℕ) (before : List Read) → HoldsReads lane given →
      over_lane reader lane before ≡ Some (value, before ++ given)

pub over_reads-given : {A : Type 0} (reader : Reader A) (reads rest : List Read) (value : A) →
    over_reads reader reads ≡ Some (value, rest) → Given A reader reads rest value
over_reads-given {A} (done v) reads rest value e =
    let ends : (v, reads) ≡ (value, rest) = cc in
    record {
      given = [];
      front = ap (λ (p : A × List Read). p.1) ends;
      same = λ lane before held. rw append-nil (ap (λ (p : A × List Read). Some (p.0, before)) ends);
    }
over_reads-given {A} (want_bytes addr len next) reads rest value e =
    option_and_then_some _ (next_bytes addr len reads) (value, rest) e
    (λ (step : List ℕ × List Read) there onward.
    let got = step.0 in
    let h = next_bytes-some addr len reads got step.1 there in
    let read = listed addr got in
    let g = over_reads-given (next got) step.1 rest value onward in
    record {
      given = read ++ g.given;
      front = h.1 ∙ ap (λ xs. read ++ xs) g.front ∙ sym (append_assoc read g.given rest);
      same = λ lane before held.
          let parts = HoldsReads-parts lane read g.given held in
          let bytes = lane_bytes-held lane addr len got h.0 (listed-HoldsReads lane addr got parts.0) in
          rw (bytes, ← append_assoc before read g.given) (g.same lane (before ++ read) parts.1);
    })
over_reads-given {A} (want_words addr most test next) reads rest value e =
    option_and_then_some _ (next_words addr most test reads) (value, rest) e
    (λ (step : List ℕ × List Read) there onward.
    let got = step.0 in
    let h = next_words-some addr most test reads got step.1 there in
    let read = listed addr h.0 in
    let g = over_reads-given (next got) step.1 rest value onward in
    record {
      given = read ++ g.given;
      front = h.2 ∙ ap (λ xs. read ++ xs) g.front ∙ sym (append_assoc read g.given rest);
      same = λ lane before held.
          let parts = HoldsReads-parts lane read g.given held in
          let words = lane_words-held lane addr most test got h.0 h.1 (listed-HoldsReads lane addr h.0 parts.0) in
          rw (words.0, words.1, ← append_assoc before read g.given) (g.same lane (before ++ read) parts.1);
    })

and_then-and_then : {A B C : Type 0} (f : A → Option C) (g : B → Option C) (h : A → Option B) →
    ((x : A) → f x ≡ option_and_then g (h x)) → (o : Option A) →
    option_and_then f o ≡ option_and_then g (option_and_then h o)
and_then-and_then f g h e None = refl
and_then-and_then f g h e (Some x) = e x

-- two readers in a row, over a lane and over reads
pub over_lane-bind : {A B : Type 0} (reader : Reader A) (onward : A → Reader B) (lane : List ℕ) (before : List Read) →
    over_lane (reader >>= onward) lane before ≡ option_and_then (λ step. over_lane (onward step.0) lane step.1) (over_lane reader lane before)
over_lane-bind (done v) onward lane before = refl
over_lane-bind (want_bytes addr len next) onward lane before =
    and_then-and_then _ _ _ (λ got. over_lane-bind (next got) onward lane (before ++ listed addr got)) (lane_bytes lane addr len)
over_lane-bind (want_words addr most test next) onward lane before =
    and_then-and_then _ _ _ (λ got. over_lane-bind (next got) onward lane (before ++ listed addr (bytes_at lane addr (8 * length got)))) (lane_words lane addr most test)

pub over_reads-bind : {A B : Type 0} (reader : Reader A) (onward : A → Reader B) (reads : List Read) →
    over_reads (reader >>= onward) reads ≡ option_and_then (λ step. over_reads (onward step.0) step.1) (over_reads reader reads)
over_reads-bind (done v) onward reads = refl
over_reads-bind (want_bytes addr len next) onward reads =
    and_then-and_then _ _ _ (λ step. over_reads-bind (next step.0) onward step.1) (next_bytes addr len reads)
over_reads-bind (want_words addr most test next) onward reads =
    and_then-and_then _ _ _ (λ step. over_reads-bind (next step.0) onward step.1) (next_words addr most test reads)

pub over_lane-then : {A B : Type 0} (reader : Reader A) (onward : A → Reader B) (lane : List ℕ)
    (before between after : List Read) (value : A) (answer : B) →
    over_lane reader lane before ≡ Some (value, between) →
    over_lane (onward value) lane between ≡ Some (answer, after) →
    over_lane (reader >>= onward) lane before ≡ Some (answer, after)
over_lane-then reader onward lane before between after value answer p q = rw (over_lane-bind reader onward lane before, p) q

-- ---- the laws

used_up : {A : Type 0} (end : A × List Read) (value : A) → if_used_up end ≡ Some value → end ≡ (value, [])
used_up (v, []) value e = let same : v ≡ value = cc in rw same refl
used_up (v, read ∷ reads) value e = absurd (cc)

pub over_lane-reading : {A : Type 0} → IsReadFromLane A
over_lane-reading {A} reader lane reads value = (
  (λ e.
      let t = over_lane-taken reader lane [] reads value e in
      let all : over_reads reader t.taken ≡ Some (value, []) = rw append-nil at (t.same []) in
      rw t.appended (rw all refl, t.held)),
  (λ h.
      option_and_then_some if_used_up (over_reads reader reads) value h.0
      (λ (end : A × List Read) there ended.
      let g = over_reads-given reader reads [] value (rw (used_up end value ended) at there) in
      let all : reads ≡ g.given = g.front ∙ append-nil g.given in
      rw all (g.same lane [] (rw all at h.1)))),
)

pub over_lane-appends : {A : Type 0} → AddsItsReads A
over_lane-appends {A} reader lane before after value = (
  (λ e.
      let t = over_lane-taken reader lane before after value e in
      let all : over_reads reader t.taken ≡ Some (value, []) = rw append-nil at (t.same []) in
      (t.taken, t.appended, (over_lane-reading reader lane t.taken value).1 (rw all refl, t.held))),
  (λ h.
      let t = over_lane-taken reader lane [] h.0 value h.2 in
      let g = over_reads-given reader h.0 [] value (rw (← t.appended, append-nil) at (t.same [])) in
      let all : h.0 ≡ g.given = g.front ∙ append-nil g.given in
      rw (h.1, all) (g.same lane before (rw (← t.appended, all) at t.held))),
)

pub over_lane-runs : {A B : Type 0} → RunsInTurn A B
over_lane-runs reader onward = record { lane = over_lane-bind reader onward; reads = over_reads-bind reader onward }
