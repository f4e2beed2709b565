use Rattle.std.proofs.Common.{◌≡◌, ◌++◌, ℕ, Bool, List, false, length, take, drop, get_or, sym, ap, subst, ◌∙◌, arith}
use Rattle.std.proofs.Math.ListN.{replicate}
use Rattle.std.proofs.Math.Seq.{take-append_seam}
use Rattle.std.proofs.lemmas.List.{get_or-replicate}
use Rattle.ta_asm.specs.Reading.{IsMarked}
use Rattle.ta_asm.proofs.disassembler.labelled.Goals as goal

pub mark_labels-requires : goal.mark_labels-requires
mark_labels-requires c =
    let none : c.deref_mut.result.now ≡ replicate c.len.result false = c.deref_mut.ensures.value ∙ c.in_ok-marks.ensures.items_if_clones_equal (λ y same. same) in
    let count : length c.deref_mut.result.now ≡ c.len.result = c.deref_mut.ensures.len ∙ c.in_ok-marks.ensures.len in
    record {
      valid = c.requires;
      whole = omega arith;
      none = λ k d lt. ap (λ (marks : List Bool). get_or marks k d) none ∙ get_or-replicate c.len.result k false d (omega arith);
    }

pub returns : goal.returns
returns c =
    let marks : List Bool = c.mark_labels.new.marks in
    let rest : List Bool = drop (length marks) c.in_ok-marks.marks.items in
    let count : c.in_ok-marks.marks.len ≡ length marks = omega arith in
    subst (λ (m : List Bool). IsMarked c.args.image.now m) (sym (ap (λ (n : ℕ). take n (marks ++ rest)) count ∙ take-append_seam marks rest)) c.mark_labels.ensures
