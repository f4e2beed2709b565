-- What a processor is to the kernel.
use Rattle.kernel_model.specs.Kernel as model
use Rattle.kernel_state.specs.declared.processor.Errand.{Errand}
use Rattle.kernel_state.specs.declared.processor.Errand.TheVariants.{Fixed, InSlot}
use Rattle.kernel_state.specs.declared.processor.Processor.{Processor}
use Rattle.kernel_state.specs.declared.processor.Processor.TheVariants.{Outside, Inside}

abbrev pub errand_of : Errand → model.Errand
errand_of (Fixed answer) = model.Fixed answer
errand_of (InSlot slot) = model.InSlot slot

abbrev pub processor_of : Processor → model.Processor
processor_of Outside = model.Outside
processor_of (Inside regs steps errand) = model.Inside regs.a steps (errand_of errand)
