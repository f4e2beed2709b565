-- Answers counted, and the summary of an empty play, computed.
use Rattle.std.specs.Prelude.{◌≡◌, List, ℕ, [], ◌∷◌, ◌++◌, codes, replicate, true, false, Some}
use Rattle.event_journal.specs.declared.event.Event.{Event}
use Rattle.event_journal.specs.declared.event.Event.TheVariants.{Entry, Exit}
use Rattle.hex.specs.Hex.{encode_lower}
use Rattle.sha2.specs.Sha256.{sha256}
use Rattle.made_play.specs.Summary.{answers_in, is_limit, is_ok, is_resume, is_rpc, summary_of}

-- a processor goes out with this a0
abbrev pub exits_with : ℕ → Event
exits_with a0 = Exit 0 (record { a = a0 ∷ replicate 7 0 })

-- two returns, an interrupt, an unknown function, and an entry whose a0 is none of an answer
abbrev pub history : List Event
history =
    exits_with 0 ∷ exits_with 3 ∷ Entry 0 (record { a = replicate 8 0 }) 1 [] ∷ exits_with 0xffff0004 ∷ exits_with 0xffffffff ∷ exits_with 0 ∷ []

pub record Examples : Type 0 where
  pub ok : answers_in history is_ok ≡ 2
  pub limit : answers_in history is_limit ≡ 0
  pub resume : answers_in history is_resume ≡ 1
  pub rpc : answers_in history is_rpc ≡ 1
  pub least_rpc : is_rpc 0xffff0000 ≡ true
  pub below_rpc : is_rpc 0xfffeffff ≡ false
  pub fast_call : is_rpc 0x384fb3e0 ≡ false
  -- no call: nothing is printed
  pub no_call : summary_of 7 0
      ≡ Some (codes "work 7 0 ok 0 limit 0 resume 0 rpc 0 sha256 " ++ encode_lower (sha256 []) ++ 10 ∷ [])
