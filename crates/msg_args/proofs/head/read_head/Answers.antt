use Rattle.std.proofs.Common.{◌∙◌, ap}
use Rattle.msg_args.specs.Spelling.{head_bytes}
use Rattle.msg_args.proofs.Heads.{fields_are, head_back}
use Rattle.msg_args.proofs.head.read_head.Goals as goal

pub returns-clause-fields : goal.returns-clause-fields
returns-clause-fields c = fields_are c.args.bytes.now _ c.read_u32.ensures c.read_u32-2.ensures c.read_u32-3.ensures c.read_u32-4.ensures c.read_u32-5.ensures c.read_u32-6.ensures c.read_u32-7.ensures c.read_u32-8.ensures

pub returns-clause-spelled : goal.returns-clause-spelled
returns-clause-spelled c =
    let fields = fields_are c.args.bytes.now _ c.read_u32.ensures c.read_u32-2.ensures c.read_u32-3.ensures c.read_u32-4.ensures c.read_u32-5.ensures c.read_u32-6.ensures c.read_u32-7.ensures c.read_u32-8.ensures in
    ap head_bytes fields ∙ head_back c.args.bytes.now c.told-bytes c.fits-bytes
