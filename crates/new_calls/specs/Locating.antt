-- Where a call has its argument, as the kernel's definitions see it.
use Rattle.std.specs.Option.{option_map}
use Rattle.kernel_model.specs.Located as model
use Rattle.new_calls.specs.declared.located.Located.{Located}
use Rattle.new_calls.specs.declared.located.Named.{Named}

abbrev pub named_as : Named → model.Named
named_as named = record { cookie = named.cookie; room = named.room }

abbrev pub located_as : Located → model.Located
located_as at = record { addr = at.addr; has_area = at.has_area; named = option_map named_as at.named }
