use Rattle.std.proofs.Common.{◌≡◌, false, length, arith, ap, ◌∙◌, sym}
use Rattle.std.specs.Prelude.{is_ok}
use Rattle.std.proofs.lemmas.Bool.{false≢true}
use Rattle.rpc_msgs.specs.FileName.{IsFileName}
use Rattle.tee_storage.specs.ObjectFiles.{file_name}
use Rattle.tee_storage.proofs.Names.{is_name, in_parts}
use Rattle.tee_storage.proofs.object_file.file_name.Goals as goal

pub unreachable-requires : goal.unreachable-requires
unreachable-requires c =
    let whole : length c.args.uuid ≡ 16 = omega arith in
    let bytes_are : c.as_slice.result.now ≡ file_name c.args.uuid c.args.id.now =
    c.as_slice.ensures.value ∙ in_parts c.args.uuid c.args.id.now _ _ _ _ _ c.new-name.ensures c.as_bytes.ensures c.push_digits.ensures.items c.push.ensures.items c.push_digits-2.ensures.items in
    let named : IsFileName c.as_slice.result.now = rw bytes_are (is_name c.args.uuid c.args.id.now whole c.requires) in
    let fails : is_ok c.new.result ≡ false = ap is_ok c.in-Err.is in
    false≢true (sym fails ∙ c.new.ensures.ok.1 named)

pub returns : goal.returns
returns c =
    c.in-Ok.ensures.name
    ∙ c.as_slice.ensures.value ∙ in_parts c.args.uuid c.args.id.now _ _ _ _ _ c.new-name.ensures c.as_bytes.ensures c.push_digits.ensures.items c.push.ensures.items c.push_digits-2.ensures.items
