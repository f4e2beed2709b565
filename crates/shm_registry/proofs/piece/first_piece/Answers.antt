use Rattle.std.proofs.Common.{◌≡◌, ◌-◌, ◌%◌, min, refl, arith}
use Rattle.shm_registry.proofs.Cutting.{first_cut, first_page}
use Rattle.shm_registry.proofs.piece.first_piece.Goals as goal

pub overflow_add-result : goal.overflow_add-result
overflow_add-result c =
    let inside = first_page c.args.pages.now c.args.start _ 0 c.requires.pages (omega arith) refl in
    omega (arith, inside.1)

pub returns-clause-piece : goal.returns-clause-piece
returns-clause-piece c =
    let len : c.min-len.result ≡ min c.args.size (4096 - c.args.start % 4096) = omega arith in
    rw len (first_cut c.args.pages.now c.args.start c.args.size _ 0 c.requires.some (omega arith) refl)

pub returns-clause-in_ram : goal.returns-clause-in_ram
returns-clause-in_ram c =
    let inside = first_page c.args.pages.now c.args.start _ 0 c.requires.pages (omega arith) refl in
    (omega (arith, inside.0), omega (arith, inside.1))
