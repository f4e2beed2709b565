-- What the code reads out of the parameters of an open, as the kernel's definitions see it.
use Rattle.kernel_model.specs.Argument as model
use Rattle.new_calls.specs.declared.wanted.Wanted.{Wanted}

abbrev pub opening_of : Wanted → model.Opening
opening_of wanted = record { uuid = wanted.uuid; login = wanted.login; params = wanted.params.now }
