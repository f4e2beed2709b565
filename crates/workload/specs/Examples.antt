-- What the definitions say of small inputs.
use Rattle.std.specs.Prelude.{◌≡◌, [], ◌∷◌, Ok, codes}
use Rattle.hex.specs.Hex.{decode_of}
use Rattle.ta_isa.specs.Spelling.{spelling}
use Rattle.trace_text.specs.declared.item.Item.TheVariants.{Smc}
use Rattle.workload.specs.declared.work.TheConstants.{MOST_CALLS}
use Rattle.workload.specs.Work.{add_image, made_items, next, open_argument, resume_registers}

pub record Examples : Type 0 where
  -- the bytes of docs/formats.md
  pub image : decode_of (codes "4f54544100000000010000000700000000000000000000000100000000000000000000001800000000000000010000000000000018000000030000000301000100000000010000000000000018000000040000001800000000000000") ≡ Ok (spelling add_image)
  pub argument : decode_of (codes "000000000000000000000000000000000000000000000000000000000200000001010000000000001111111122223333444455555555555500000000000000000101000000000000000000000000000000000000000000000000000000000000") ≡ Ok open_argument
  pub most_calls : MOST_CALLS ≡ 65536
  pub first : next 1 ≡ 7806831264735756412
  pub no_call : made_items 7 0 ≡ []
  pub one_call : made_items 1 1 ≡ Smc 0 8 (resume_registers 0) ∷ []
