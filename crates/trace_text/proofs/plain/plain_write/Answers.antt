use Rattle.std.proofs.Common.{◌≡◌, ℕ, ◌<◌, [], ◌∷◌, length, Some, sym, ap, ◌∙◌, arith}
use Rattle.std.specs.Global.{Vec}
use Rattle.std.specs.Prelude.{codes}
use Rattle.std.proofs.Math.Path.{subst}
use Rattle.std.proofs.lemmas.Bool.Decides.{Decides-eqb, nat_tests}
use Rattle.std.proofs.lemmas.Slice.Eq.{strip_prefix_is}
use Rattle.trace_text.specs.declared.fault.BadKind.TheVariants as bad
use Rattle.trace_text.specs.Forms.{bytes, is_hex}
use Rattle.trace_text.specs.Limits.{lies_in_ram}
use Rattle.trace_text.specs.Plain.{IsPlainWrite}
use Rattle.trace_text.proofs.PlainLines.{judged_ok, write_line}
use Rattle.trace_text.proofs.plain.plain_write.Goals as goal

pub returns : goal.returns
returns c =
    let line = strip_prefix_is Decides-eqb c.args.line.now (codes "write ") (Some c.in_ok-rest.rest) c.in_ok-rest.ensures.cases in
    let decoded = judged_ok (λ (v : Vec ℕ). v.items) c.bytes.result ((bad.Hex, is_hex c.in_ok-addr.rest.now) ∷ []) (bytes c.in_ok-addr.rest.now) c.in_ok-bytes.bytes c.in_ok-bytes.ensures.value c.bytes.ensures in
    let count : length c.of.result ≡ c.len.result = omega (arith, ap length c.of.ensures, c.len.ensures, c.in_ok-bytes.bytes.ok.0) in
    let some : 0 < length c.in_ok-addr.rest.now = grind (arith, nat_tests) in
    let written = write_line c.args.line.now c.in_ok-rest.rest.now c.in_ok-cpu.rest.now c.in_ok-addr.rest.now c.in_ok-cpu.cpu c.in_ok-addr.addr c.of.result line c.in_ok-cpu.ensures c.in_ok-addr.ensures some (decoded.0, c.of.ensures ∙ decoded.1) in (
      subst (λ (addr : ℕ). IsPlainWrite c.args.line.now c.in_ok-cpu.cpu addr c.of.result) (sym c.from-addr.ensures) written,
      sym c.if-not-is_there.ensures,
      ap (λ (n : ℕ). lies_in_ram c.from-addr.result n) count ∙ sym c.if-not-lies_in_ram.ensures,
    )
