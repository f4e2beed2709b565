-- Which call an id names: the function ids of `optee_smc.h`, as rows.
use Rattle.std.specs.Prelude.{◌==◌, ℕ, List, [], ◌∷◌, if◌then◌else◌}
use Rattle.smc_abi.specs.declared.call.FastCall.TheVariants.{CallsUid, CallsRevision, OsUuid, OsRevision, ShmConfig, Capabilities, DisableShmCache, EnableShmCache, ThreadCount}
use Rattle.smc_abi.specs.declared.call.Call.{Call}
use Rattle.smc_abi.specs.declared.call.Call.TheVariants.{Fast, WithArg, WithRpcArg, WithRegdArg, Resume, Unknown}

-- each function id, and its call
abbrev pub call_table : List (ℕ × Call)
call_table =
    (0xbf00ff01, Fast CallsUid)
    ∷ (0xbf00ff03, Fast CallsRevision)
    ∷ (0xb2000000, Fast OsUuid)
    ∷ (0xb2000001, Fast OsRevision)
    ∷ (0xb2000007, Fast ShmConfig)
    ∷ (0xb2000009, Fast Capabilities)
    ∷ (0xb200000a, Fast DisableShmCache)
    ∷ (0xb200000b, Fast EnableShmCache)
    ∷ (0xb200000f, Fast ThreadCount)
    ∷ (0x32000003, Resume)
    ∷ (0x32000004, WithArg)
    ∷ (0x32000012, WithRpcArg)
    ∷ (0x32000013, WithRegdArg)
    ∷ []

-- the call beside the first row of this id
abbrev pub call_in : List (ℕ × Call) → ℕ → Call
call_in [] id = Unknown
call_in (row ∷ rows) id = if row.0 == id then row.1 else call_in rows id

-- the call of a0, `Unknown` where it stands in no row
abbrev pub call_of : ℕ → Call
call_of id = call_in call_table id
