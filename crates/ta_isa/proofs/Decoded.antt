-- What decoding answers, by what the header and the instructions are read as.
use Rattle.std.proofs.Common.{◌≡◌, ℕ, List, Option, Some, None, Ok, Err, ◌⊎◌, inl, inr, refl, sym, ap, ◌∙◌}
use Rattle.std.specs.Option.{option_map, option_or}
use Rattle.ta_isa.specs.declared.decode.Header.{Header}
use Rattle.ta_isa.specs.declared.image.Instr.{Instr}
use Rattle.ta_isa.specs.declared.image.Image.{Image}
use Rattle.ta_isa.specs.declared.image_fault.ImageFault.{ImageFault}
use Rattle.ta_isa.specs.declared.image_fault.ImageFault.TheVariants.{BadOp, Memory}
use Rattle.ta_isa.specs.Header.{header_of}
use Rattle.ta_isa.specs.Reading.{word_at, entries_of, header_fault, first_bad, count_of, code_of, image_of, answer, decoded, IsUnlessMemory}

-- the header has a fault
pub decoded-bad_header : (bytes : List ℕ) (fault : ImageFault) → header_fault bytes ≡ Some fault → decoded bytes ≡ Err fault
decoded-bad_header bytes fault e = ap (λ (f : Option ImageFault). answer (option_or f (option_map BadOp (first_bad (count_of bytes) (code_of bytes)))) (image_of bytes)) e

-- what follows it decides
pub decoded-good_header : (bytes : List ℕ) (first : Option ℕ) → header_fault bytes ≡ None → first_bad (count_of bytes) (code_of bytes) ≡ first → decoded bytes ≡ answer (option_map BadOp first) (image_of bytes)
decoded-good_header bytes first e g =
    ap (λ (f : Option ImageFault). answer (option_or f (option_map BadOp (first_bad (count_of bytes) (code_of bytes)))) (image_of bytes)) e
    ∙ ap (λ (n : Option ℕ). answer (option_map BadOp n) (image_of bytes)) g

-- an instruction is bad, or memory ran out
pub decoded-bad_code : (bytes : List ℕ) (fault : ImageFault) → header_fault bytes ≡ None → (fault ≡ Memory) ⊎ (option_map BadOp (first_bad (count_of bytes) (code_of bytes)) ≡ Some fault) → IsUnlessMemory (Err fault) (decoded bytes)
decoded-bad_code bytes fault e (inl out) = inr (ap (λ (f : ImageFault). Err f) out)
decoded-bad_code bytes fault e (inr bad) =
    inl (sym (decoded-good_header bytes (first_bad (count_of bytes) (code_of bytes)) e refl ∙ ap (λ (f : Option ImageFault). answer f (image_of bytes)) bad))

-- the same by what was read as the header
pub decoded-bad_code_of : (bytes : List ℕ) (header : Header) (fault : ImageFault) → header ≡ header_of bytes → header_fault bytes ≡ None → (fault ≡ Memory) ⊎ (option_map BadOp (first_bad header.count (code_of bytes)) ≡ Some fault) → IsUnlessMemory (Err fault) (decoded bytes)
decoded-bad_code_of bytes header fault read good bad =
    let count : header.count ≡ count_of bytes = ap (λ (h : Header). h.count) read in
    decoded-bad_code bytes fault good (rw count at bad)

-- nothing is bad
pub decoded-good : (bytes : List ℕ) (header : Header) (code : List Instr) → header ≡ header_of bytes → header_fault bytes ≡ None → first_bad header.count (code_of bytes) ≡ None → code ≡ code_of bytes → IsUnlessMemory (Ok (record { flags = header.flags; pages = header.pages; entries = header.entries; code = code })) (decoded bytes)
decoded-good bytes header code read good none same =
    let count : header.count ≡ count_of bytes = ap (λ (h : Header). h.count) read in
    let by_header : Header → Image = λ h. record { flags = h.flags; pages = h.pages; entries = h.entries; code = code } in
    let by_code : List Instr → Image = λ is. record { flags = word_at 4 bytes; pages = word_at 8 bytes; entries = entries_of bytes; code = is } in
    let image : by_header header ≡ image_of bytes = ap by_header read ∙ ap by_code same in
    inl (ap (λ (i : Image). Ok i) image ∙ sym (decoded-good_header bytes None good (rw count at none)))
