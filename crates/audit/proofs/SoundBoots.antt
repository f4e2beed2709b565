-- A boot that was read beside built-in applications can be checked beside them.
use Rattle.std.specs.Prelude.{map}
use Rattle.audit.specs.Laws.{ReadBootsCanBeChecked}
use Rattle.journal_replay.proofs.Apart.{none_repeated, within_limits}
use Rattle.kernel_model.specs.Application.{Native}

pub read_boots_can_be_checked : ReadBootsCanBeChecked
read_boots_can_be_checked natives boot sound = record {
  limits = within_limits boot sound.boots;
  apart = none_repeated (map (λ (native : Native). native.0) natives) boot sound.boots sound.no_native;
}
