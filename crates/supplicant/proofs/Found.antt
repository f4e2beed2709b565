-- The file of a descriptor, by the name that it stands for and the bytes of that.
use Rattle.std.proofs.Common.{◌≡◌, ℕ, List, Option, Some, None, sym, ap, ◌∙◌}
use Rattle.std.specs.Prelude.{Ok, Err}
use Rattle.supplicant.specs.Files.{Files, bytes_of}
use Rattle.supplicant.specs.Supplicant.{BAD_PARAMETERS, ITEM_NOT_FOUND, known, there}

pub found : (files : Files) (named : Option (List ℕ)) (name bytes : List ℕ) → Some name ≡ named → Some bytes ≡ bytes_of files name →
    known files named ≡ Ok (name, bytes)
found files named name bytes stands is = sym (ap (known files) stands) ∙ sym (ap (there name) is)

pub gone : (files : Files) (named : Option (List ℕ)) (name : List ℕ) → Some name ≡ named → None ≡ bytes_of files name →
    known files named ≡ Err ITEM_NOT_FOUND
gone files named name stands none = sym (ap (known files) stands) ∙ sym (ap (there name) none)

pub unknown : (files : Files) (named : Option (List ℕ)) → None ≡ named → known files named ≡ Err BAD_PARAMETERS
unknown files named none = sym (ap (known files) none)
