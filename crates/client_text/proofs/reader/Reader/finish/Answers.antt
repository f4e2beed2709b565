use Rattle.std.proofs.Common.{◌≡◌, [], refl, sym, ap, ◌∙◌}
use Rattle.client_text.specs.Grammar.{piece_fault}
use Rattle.client_text.specs.Rules.{ScriptFront, script_in}
use Rattle.client_text.proofs.Lines.{end_same, front_of, no_end, script_is}
use Rattle.client_text.proofs.reader.Reader.finish.Goals as goal

pub returns-in-Ok : goal.returns-in-Ok
returns-in-Ok c = λ natives.
    let end = c.in-Ok.ensures natives in
    let front : ScriptFront = front_of c.self.inside.header c.self.inside.calls.items in
    let view : c.args.self ≡ front = cc c.self.view_is in
    let none = no_end front (ap (λ (f : ScriptFront). f.header.items) (sym view) ∙ c.requires) in (
      ap (λ (f : ScriptFront). piece_fault natives f c.args.rest.now []) view ∙ end_same natives front c.args.rest.now none ∙ end.0,
      c.script_of.ensures
          ∙ script_is c.in-Ok.header front c.self.inside.calls.items end.1 refl
          ∙ ap script_in (sym view),
    )

pub returns-in-Err : goal.returns-in-Err
returns-in-Err c = λ natives.
    let front : ScriptFront = front_of c.self.inside.header c.self.inside.calls.items in
    let view : c.args.self ≡ front = cc c.self.view_is in
    let none = no_end front (ap (λ (f : ScriptFront). f.header.items) (sym view) ∙ c.requires) in
    ap (λ (f : ScriptFront). piece_fault natives f c.args.rest.now []) view ∙ end_same natives front c.args.rest.now none
    ∙ c.in-Err.ensures natives
