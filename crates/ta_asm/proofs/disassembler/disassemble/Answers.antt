use Rattle.std.proofs.Common.{◌≡◌, ◌++◌, List, ℕ, Bool, sym, ap, subst, ◌∙◌}
use Rattle.ta_isa.specs.declared.image.Instr.{Instr}
use Rattle.ta_asm.specs.Canonical.{canonical, code_lines, header_lines, text_of}
use Rattle.ta_asm.specs.Grammar.{StandsFor}
use Rattle.ta_asm.specs.Reading.{IsMarked}
use Rattle.ta_asm.proofs.Output.{canonical_parts}
use Rattle.ta_asm.proofs.Spoken.{canonical_stands}
use Rattle.ta_asm.proofs.disassembler.disassemble.Goals as goal

pub returns : goal.returns
returns c =
    let image = c.args.image.now in
    let marked : IsMarked image c.deref.result.now = subst (λ (m : List Bool). IsMarked image m) (sym c.deref.ensures.value) c.in_ok-marks.ensures in
    let header = c.in_ok-put_header.ensures ∙ ap (λ (t : List ℕ). t ++ text_of (header_lines image)) c.new-out.ensures.items in
    let code = c.in_ok-put_code.ensures image marked (sym c.as_slice.ensures) ∙ ap (λ (code : List Instr). c.put_header.new.out.items ++ text_of (code_lines image 0 code)) c.as_slice.ensures in
    let whole : c.put_code.new.out.items ≡ canonical image = code ∙ ap (λ (t : List ℕ). t ++ text_of (code_lines image 0 image.code)) header ∙ sym (canonical_parts image) in
    record { stands = subst (λ (t : List ℕ). StandsFor t image) (sym whole) (canonical_stands image c.requires); canonical = whole }
