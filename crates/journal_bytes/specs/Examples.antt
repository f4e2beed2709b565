-- What the definitions say of small inputs.
use Rattle.std.specs.Prelude.{◌≡◌, ℕ, List, [], ◌∷◌, ◌++◌, length, replicate}
use Rattle.ta_isa.specs.declared.boot.Boot.{Boot}
use Rattle.event_journal.specs.declared.event.Event.{Event}
use Rattle.event_journal.specs.declared.event.Event.TheVariants.{Entry, Exit}
use Rattle.trace_text.specs.declared.fault.BadKind.TheVariants as bad
use Rattle.trace_bin.specs.Spelling.{boot_record}
use Rattle.journal_bytes.specs.Grammar.{IsFirstFault, Spells}
use Rattle.journal_bytes.specs.Spelling.{event_record, spelling}

-- a core of one processor, one slot and one frame that was asked for its UID
abbrev pub small_boot : Boot
small_boot = record { cpus = 1; threads = 1; frames = 1; apps = []; key = replicate 32 0 }

-- the same with a key, and its record
abbrev pub key_bytes : List ℕ
key_bytes =
    0xa0 ∷ 0xa1 ∷ 0xa2 ∷ 0xa3 ∷ 0xa4 ∷ 0xa5 ∷ 0xa6 ∷ 0xa7 ∷ 0xa8 ∷ 0xa9 ∷ 0xaa ∷ 0xab ∷ 0xac ∷ 0xad ∷ 0xae ∷ 0xaf
    ∷ 0xb0 ∷ 0xb1 ∷ 0xb2 ∷ 0xb3 ∷ 0xb4 ∷ 0xb5 ∷ 0xb6 ∷ 0xb7 ∷ 0xb8 ∷ 0xb9 ∷ 0xba ∷ 0xbb ∷ 0xbc ∷ 0xbd ∷ 0xbe ∷ 0xbf
    ∷ []

abbrev pub keyed_boot : Boot
keyed_boot = record small_boot { key = key_bytes }

abbrev pub key_record : List ℕ
key_record = 4 ∷ key_bytes

abbrev pub asks : Event
asks = Entry 0 (record { a = 0xbf00ff01 ∷ replicate 7 0 }) 1 []

abbrev pub answers : Event
answers = Exit 0 (record { a = 0x384fb3e0 ∷ 0xe7f811e3 ∷ 0xaf630002 ∷ 0xa5d5c51b ∷ replicate 4 0 })

-- ---- bytes, each given here as such

abbrev pub magic_bytes : List ℕ
magic_bytes = 0x4f ∷ 0x54 ∷ 0x54 ∷ 0x4a ∷ []

abbrev pub boot_bytes : List ℕ
boot_bytes = 1 ∷ 1 ∷ 1 ∷ 1 ∷ 0 ∷ []

-- the entry, and the exit
abbrev pub asking_bytes : List ℕ
asking_bytes =
    0x20 ∷ 0 ∷ 1 ∷ 0xff ∷ 0 ∷ 0xbf ∷ 0 ∷ 0 ∷ 0 ∷ 0 ∷ 0 ∷ 0 ∷ 0 ∷ 0 ∷ 0 ∷ 0
    ∷ 0 ∷ 0 ∷ 0 ∷ 0 ∷ 0 ∷ 0 ∷ 0 ∷ 0 ∷ 0 ∷ 0 ∷ 0 ∷ 0 ∷ 0 ∷ 0 ∷ 0 ∷ 0
    ∷ 0 ∷ 0 ∷ 1 ∷ 0 ∷ 0 ∷ 0 ∷ 0 ∷ 0 ∷ 0 ∷ 0
    ∷ []

abbrev pub answer_bytes : List ℕ
answer_bytes =
    0x21 ∷ 0 ∷ 0xe0 ∷ 0xb3 ∷ 0x4f ∷ 0x38 ∷ 0xe3 ∷ 0x11 ∷ 0xf8 ∷ 0xe7 ∷ 2 ∷ 0 ∷ 0x63 ∷ 0xaf ∷ 0x1b ∷ 0xc5
    ∷ 0xd5 ∷ 0xa5 ∷ 0 ∷ 0 ∷ 0 ∷ 0 ∷ 0 ∷ 0 ∷ 0 ∷ 0 ∷ 0 ∷ 0 ∷ 0 ∷ 0 ∷ 0 ∷ 0
    ∷ 0 ∷ 0
    ∷ []

abbrev pub whole_bytes : List ℕ
whole_bytes = magic_bytes ++ boot_bytes ++ asking_bytes ++ answer_bytes ++ 0x7f ∷ []

abbrev pub keyed_bytes : List ℕ
keyed_bytes = magic_bytes ++ boot_bytes ++ key_record ++ asking_bytes ++ answer_bytes ++ 0x7f ∷ []

-- a key of zeros, which may be given, and 31 bytes of one
abbrev pub zero_key_record : List ℕ
zero_key_record = 4 ∷ replicate 32 0

abbrev pub cut_key_bytes : List ℕ
cut_key_bytes = 4 ∷ replicate 31 7

-- an invoke whose argument stands in a buffer that was registered: its head is read
abbrev pub reads_a_head : Event
reads_a_head = Entry 6 (record { a = 0x32000013 ∷ 0 ∷ 0x38 ∷ 8 ∷ 0 ∷ 0 ∷ 0 ∷ 0 ∷ [] }) 16 (record { addr = 0x40200008; bytes = 1 ∷ 0 ∷ 0 ∷ 0 ∷ 0x6a ∷ 0x59 ∷ 0x11 ∷ 0x8e ∷ 3 ∷ 0 ∷ 0 ∷ 0 ∷ 1 ∷ 0 ∷ 0 ∷ 0 ∷ 0 ∷ 0 ∷ 0 ∷ 0 ∷ 0 ∷ 0 ∷ 0 ∷ 0 ∷ 0 ∷ 0 ∷ 0 ∷ 0 ∷ 0 ∷ 0 ∷ 0 ∷ 0 ∷ [] } ∷ [])

abbrev pub reads_a_head_bytes : List ℕ
reads_a_head_bytes =
    0x20 ∷ 6 ∷ 0x13 ∷ 0 ∷ 0 ∷ 0x32 ∷ 0 ∷ 0 ∷ 0 ∷ 0 ∷ 0x38 ∷ 0 ∷ 0 ∷ 0 ∷ 8 ∷ 0
    ∷ 0 ∷ 0 ∷ 0 ∷ 0 ∷ 0 ∷ 0 ∷ 0 ∷ 0 ∷ 0 ∷ 0 ∷ 0 ∷ 0 ∷ 0 ∷ 0 ∷ 0 ∷ 0
    ∷ 0 ∷ 0 ∷ 0x10 ∷ 0 ∷ 0 ∷ 0 ∷ 1 ∷ 0 ∷ 0 ∷ 0 ∷ 8 ∷ 0 ∷ 0x20 ∷ 0x40 ∷ 0 ∷ 0
    ∷ 0 ∷ 0 ∷ 0x20 ∷ 0 ∷ 0 ∷ 0 ∷ 1 ∷ 0 ∷ 0 ∷ 0 ∷ 0x6a ∷ 0x59 ∷ 0x11 ∷ 0x8e ∷ 3 ∷ 0
    ∷ 0 ∷ 0 ∷ 1 ∷ 0 ∷ 0 ∷ 0 ∷ 0 ∷ 0 ∷ 0 ∷ 0 ∷ 0 ∷ 0 ∷ 0 ∷ 0 ∷ 0 ∷ 0
    ∷ 0 ∷ 0 ∷ 0 ∷ 0 ∷ 0 ∷ 0
    ∷ []

-- a buffer is registered: the head, its one parameter, and the list of its one page
abbrev pub reads_three_times : Event
reads_three_times = Entry 0 (record { a = 0x32000004 ∷ 0 ∷ 0x40000000 ∷ 0 ∷ 0 ∷ 0 ∷ 0 ∷ 0 ∷ [] }) 12 (record { addr = 0x40000000; bytes = 4 ∷ 0 ∷ 0 ∷ 0 ∷ 0 ∷ 0 ∷ 0 ∷ 0 ∷ 0 ∷ 0 ∷ 0 ∷ 0 ∷ 0 ∷ 0 ∷ 0 ∷ 0 ∷ 0 ∷ 0 ∷ 0 ∷ 0 ∷ 0 ∷ 0 ∷ 0 ∷ 0 ∷ 0 ∷ 0 ∷ 0 ∷ 0 ∷ 1 ∷ 0 ∷ 0 ∷ 0 ∷ [] } ∷ record { addr = 0x40000020; bytes = 9 ∷ 2 ∷ 0 ∷ 0 ∷ 0 ∷ 0 ∷ 0 ∷ 0 ∷ 0 ∷ 0 ∷ 0x10 ∷ 0x40 ∷ 0 ∷ 0 ∷ 0 ∷ 0 ∷ 0 ∷ 0x10 ∷ 0 ∷ 0 ∷ 0 ∷ 0 ∷ 0 ∷ 0 ∷ 0xb0 ∷ 0x4d ∷ 0x9d ∷ 0x99 ∷ 0xd8 ∷ 0x53 ∷ 0xc4 ∷ 0xfa ∷ [] } ∷ record { addr = 0x40100000; bytes = 0 ∷ 0 ∷ 0x20 ∷ 0x40 ∷ 0 ∷ 0 ∷ 0 ∷ 0 ∷ [] } ∷ [])

abbrev pub reads_three_times_bytes : List ℕ
reads_three_times_bytes =
    0x20 ∷ 0 ∷ 4 ∷ 0 ∷ 0 ∷ 0x32 ∷ 0 ∷ 0 ∷ 0 ∷ 0 ∷ 0 ∷ 0 ∷ 0 ∷ 0x40 ∷ 0 ∷ 0
    ∷ 0 ∷ 0 ∷ 0 ∷ 0 ∷ 0 ∷ 0 ∷ 0 ∷ 0 ∷ 0 ∷ 0 ∷ 0 ∷ 0 ∷ 0 ∷ 0 ∷ 0 ∷ 0
    ∷ 0 ∷ 0 ∷ 0x0c ∷ 0 ∷ 0 ∷ 0 ∷ 3 ∷ 0 ∷ 0 ∷ 0 ∷ 0 ∷ 0 ∷ 0 ∷ 0x40 ∷ 0 ∷ 0
    ∷ 0 ∷ 0 ∷ 0x20 ∷ 0 ∷ 0 ∷ 0 ∷ 4 ∷ 0 ∷ 0 ∷ 0 ∷ 0 ∷ 0 ∷ 0 ∷ 0 ∷ 0 ∷ 0
    ∷ 0 ∷ 0 ∷ 0 ∷ 0 ∷ 0 ∷ 0 ∷ 0 ∷ 0 ∷ 0 ∷ 0 ∷ 0 ∷ 0 ∷ 0 ∷ 0 ∷ 0 ∷ 0
    ∷ 0 ∷ 0 ∷ 1 ∷ 0 ∷ 0 ∷ 0 ∷ 0x20 ∷ 0 ∷ 0 ∷ 0x40 ∷ 0 ∷ 0 ∷ 0 ∷ 0 ∷ 0x20 ∷ 0
    ∷ 0 ∷ 0 ∷ 9 ∷ 2 ∷ 0 ∷ 0 ∷ 0 ∷ 0 ∷ 0 ∷ 0 ∷ 0 ∷ 0 ∷ 0x10 ∷ 0x40 ∷ 0 ∷ 0
    ∷ 0 ∷ 0 ∷ 0 ∷ 0x10 ∷ 0 ∷ 0 ∷ 0 ∷ 0 ∷ 0 ∷ 0 ∷ 0xb0 ∷ 0x4d ∷ 0x9d ∷ 0x99 ∷ 0xd8 ∷ 0x53
    ∷ 0xc4 ∷ 0xfa ∷ 0 ∷ 0 ∷ 0x10 ∷ 0x40 ∷ 0 ∷ 0 ∷ 0 ∷ 0 ∷ 8 ∷ 0 ∷ 0 ∷ 0 ∷ 0 ∷ 0
    ∷ 0x20 ∷ 0x40 ∷ 0 ∷ 0 ∷ 0 ∷ 0
    ∷ []

-- a close whose argument is the last thirty-two bytes of RAM
abbrev pub reads_the_last_bytes : Event
reads_the_last_bytes = Entry 0 (record { a = 0x32000012 ∷ 0 ∷ 0x403fffe0 ∷ 0 ∷ 0 ∷ 0 ∷ 0 ∷ 5 ∷ [] }) 41 (record { addr = 0x403fffe0; bytes = 2 ∷ 0 ∷ 0 ∷ 0 ∷ 0 ∷ 0 ∷ 0 ∷ 0 ∷ 3 ∷ 0 ∷ 0 ∷ 0 ∷ 0 ∷ 0 ∷ 0 ∷ 0 ∷ 0 ∷ 0 ∷ 0 ∷ 0 ∷ 0 ∷ 0 ∷ 0 ∷ 0 ∷ 0 ∷ 0 ∷ 0 ∷ 0 ∷ 0 ∷ 0 ∷ 0 ∷ 0 ∷ [] } ∷ [])

abbrev pub reads_the_last_bytes_bytes : List ℕ
reads_the_last_bytes_bytes =
    0x20 ∷ 0 ∷ 0x12 ∷ 0 ∷ 0 ∷ 0x32 ∷ 0 ∷ 0 ∷ 0 ∷ 0 ∷ 0xe0 ∷ 0xff ∷ 0x3f ∷ 0x40 ∷ 0 ∷ 0
    ∷ 0 ∷ 0 ∷ 0 ∷ 0 ∷ 0 ∷ 0 ∷ 0 ∷ 0 ∷ 0 ∷ 0 ∷ 0 ∷ 0 ∷ 0 ∷ 0 ∷ 5 ∷ 0
    ∷ 0 ∷ 0 ∷ 0x29 ∷ 0 ∷ 0 ∷ 0 ∷ 1 ∷ 0 ∷ 0 ∷ 0 ∷ 0xe0 ∷ 0xff ∷ 0x3f ∷ 0x40 ∷ 0 ∷ 0
    ∷ 0 ∷ 0 ∷ 0x20 ∷ 0 ∷ 0 ∷ 0 ∷ 2 ∷ 0 ∷ 0 ∷ 0 ∷ 0 ∷ 0 ∷ 0 ∷ 0 ∷ 3 ∷ 0
    ∷ 0 ∷ 0 ∷ 0 ∷ 0 ∷ 0 ∷ 0 ∷ 0 ∷ 0 ∷ 0 ∷ 0 ∷ 0 ∷ 0 ∷ 0 ∷ 0 ∷ 0 ∷ 0
    ∷ 0 ∷ 0 ∷ 0 ∷ 0 ∷ 0 ∷ 0
    ∷ []

-- a cancel that is granted 2,849 steps
abbrev pub granted_many_steps : Event
granted_many_steps = Entry 1 (record { a = 0x32000004 ∷ 0 ∷ 0x40000000 ∷ 0 ∷ 0 ∷ 0 ∷ 0 ∷ 6 ∷ [] }) 2849 (record { addr = 0x40000000; bytes = 3 ∷ 0 ∷ 0 ∷ 0 ∷ 0 ∷ 0 ∷ 0 ∷ 0 ∷ 0xff ∷ 0xff ∷ 0xff ∷ 0xff ∷ 1 ∷ 0 ∷ 0 ∷ 0 ∷ 0 ∷ 0 ∷ 0 ∷ 0 ∷ 0 ∷ 0 ∷ 0 ∷ 0 ∷ 0 ∷ 0 ∷ 0 ∷ 0 ∷ 0 ∷ 0 ∷ 0 ∷ 0 ∷ [] } ∷ [])

abbrev pub granted_many_steps_bytes : List ℕ
granted_many_steps_bytes =
    0x20 ∷ 1 ∷ 4 ∷ 0 ∷ 0 ∷ 0x32 ∷ 0 ∷ 0 ∷ 0 ∷ 0 ∷ 0 ∷ 0 ∷ 0 ∷ 0x40 ∷ 0 ∷ 0
    ∷ 0 ∷ 0 ∷ 0 ∷ 0 ∷ 0 ∷ 0 ∷ 0 ∷ 0 ∷ 0 ∷ 0 ∷ 0 ∷ 0 ∷ 0 ∷ 0 ∷ 6 ∷ 0
    ∷ 0 ∷ 0 ∷ 0x21 ∷ 0x0b ∷ 0 ∷ 0 ∷ 1 ∷ 0 ∷ 0 ∷ 0 ∷ 0 ∷ 0 ∷ 0 ∷ 0x40 ∷ 0 ∷ 0
    ∷ 0 ∷ 0 ∷ 0x20 ∷ 0 ∷ 0 ∷ 0 ∷ 3 ∷ 0 ∷ 0 ∷ 0 ∷ 0 ∷ 0 ∷ 0 ∷ 0 ∷ 0xff ∷ 0xff
    ∷ 0xff ∷ 0xff ∷ 1 ∷ 0 ∷ 0 ∷ 0 ∷ 0 ∷ 0 ∷ 0 ∷ 0 ∷ 0 ∷ 0 ∷ 0 ∷ 0 ∷ 0 ∷ 0
    ∷ 0 ∷ 0 ∷ 0 ∷ 0 ∷ 0 ∷ 0
    ∷ []

-- a call that goes out with a request of the normal world
abbrev pub goes_out_for_a_request : Event
goes_out_for_a_request = Exit 1 (record { a = 0xffff0005 ∷ 0 ∷ 0x77 ∷ 0 ∷ 0 ∷ 0x77 ∷ 0 ∷ 0 ∷ [] })

abbrev pub goes_out_for_a_request_bytes : List ℕ
goes_out_for_a_request_bytes =
    0x21 ∷ 1 ∷ 5 ∷ 0 ∷ 0xff ∷ 0xff ∷ 0 ∷ 0 ∷ 0 ∷ 0 ∷ 0x77 ∷ 0 ∷ 0 ∷ 0 ∷ 0 ∷ 0
    ∷ 0 ∷ 0 ∷ 0 ∷ 0 ∷ 0 ∷ 0 ∷ 0x77 ∷ 0 ∷ 0 ∷ 0 ∷ 0 ∷ 0 ∷ 0 ∷ 0 ∷ 0 ∷ 0
    ∷ 0 ∷ 0
    ∷ []

-- and one that goes out interrupted
abbrev pub goes_out_interrupted : Event
goes_out_interrupted = Exit 0 (record { a = 0xffff0004 ∷ 0 ∷ 0 ∷ 0 ∷ 0 ∷ 0 ∷ 0 ∷ 0 ∷ [] })

abbrev pub goes_out_interrupted_bytes : List ℕ
goes_out_interrupted_bytes =
    0x21 ∷ 0 ∷ 4 ∷ 0 ∷ 0xff ∷ 0xff ∷ 0 ∷ 0 ∷ 0 ∷ 0 ∷ 0 ∷ 0 ∷ 0 ∷ 0 ∷ 0 ∷ 0
    ∷ 0 ∷ 0 ∷ 0 ∷ 0 ∷ 0 ∷ 0 ∷ 0 ∷ 0 ∷ 0 ∷ 0 ∷ 0 ∷ 0 ∷ 0 ∷ 0 ∷ 0 ∷ 0
    ∷ 0 ∷ 0
    ∷ []

-- an entry of no steps, one that reads no bytes, one that reads the byte below RAM, and one whose read goes on behind the end
abbrev pub no_steps_bytes : List ℕ
no_steps_bytes =
    0x20 ∷ 0 ∷ 0 ∷ 0 ∷ 0 ∷ 0 ∷ 0 ∷ 0 ∷ 0 ∷ 0 ∷ 0 ∷ 0 ∷ 0 ∷ 0 ∷ 0 ∷ 0
    ∷ 0 ∷ 0 ∷ 0 ∷ 0 ∷ 0 ∷ 0 ∷ 0 ∷ 0 ∷ 0 ∷ 0 ∷ 0 ∷ 0 ∷ 0 ∷ 0 ∷ 0 ∷ 0
    ∷ 0 ∷ 0 ∷ 0 ∷ 0 ∷ 0 ∷ 0 ∷ 0 ∷ 0 ∷ 0 ∷ 0
    ∷ []

abbrev pub no_read_bytes : List ℕ
no_read_bytes =
    0x20 ∷ 0 ∷ 0 ∷ 0 ∷ 0 ∷ 0 ∷ 0 ∷ 0 ∷ 0 ∷ 0 ∷ 0 ∷ 0 ∷ 0 ∷ 0 ∷ 0 ∷ 0
    ∷ 0 ∷ 0 ∷ 0 ∷ 0 ∷ 0 ∷ 0 ∷ 0 ∷ 0 ∷ 0 ∷ 0 ∷ 0 ∷ 0 ∷ 0 ∷ 0 ∷ 0 ∷ 0
    ∷ 0 ∷ 0 ∷ 1 ∷ 0 ∷ 0 ∷ 0 ∷ 1 ∷ 0 ∷ 0 ∷ 0 ∷ 0 ∷ 0 ∷ 0 ∷ 0x40 ∷ 0 ∷ 0
    ∷ 0 ∷ 0 ∷ 0 ∷ 0 ∷ 0 ∷ 0
    ∷ []

abbrev pub below_ram_bytes : List ℕ
below_ram_bytes =
    0x20 ∷ 0 ∷ 0 ∷ 0 ∷ 0 ∷ 0 ∷ 0 ∷ 0 ∷ 0 ∷ 0 ∷ 0 ∷ 0 ∷ 0 ∷ 0 ∷ 0 ∷ 0
    ∷ 0 ∷ 0 ∷ 0 ∷ 0 ∷ 0 ∷ 0 ∷ 0 ∷ 0 ∷ 0 ∷ 0 ∷ 0 ∷ 0 ∷ 0 ∷ 0 ∷ 0 ∷ 0
    ∷ 0 ∷ 0 ∷ 1 ∷ 0 ∷ 0 ∷ 0 ∷ 1 ∷ 0 ∷ 0 ∷ 0 ∷ 0xff ∷ 0xff ∷ 0xff ∷ 0x3f ∷ 0 ∷ 0
    ∷ 0 ∷ 0 ∷ 1 ∷ 0 ∷ 0 ∷ 0 ∷ 0
    ∷ []

abbrev pub behind_ram_bytes : List ℕ
behind_ram_bytes =
    0x20 ∷ 0 ∷ 0 ∷ 0 ∷ 0 ∷ 0 ∷ 0 ∷ 0 ∷ 0 ∷ 0 ∷ 0 ∷ 0 ∷ 0 ∷ 0 ∷ 0 ∷ 0
    ∷ 0 ∷ 0 ∷ 0 ∷ 0 ∷ 0 ∷ 0 ∷ 0 ∷ 0 ∷ 0 ∷ 0 ∷ 0 ∷ 0 ∷ 0 ∷ 0 ∷ 0 ∷ 0
    ∷ 0 ∷ 0 ∷ 1 ∷ 0 ∷ 0 ∷ 0 ∷ 1 ∷ 0 ∷ 0 ∷ 0 ∷ 0xff ∷ 0xff ∷ 0x3f ∷ 0x40 ∷ 0 ∷ 0
    ∷ 0 ∷ 0 ∷ 2 ∷ 0 ∷ 0 ∷ 0 ∷ 0 ∷ 0
    ∷ []

abbrev pub cut_read_bytes : List ℕ
cut_read_bytes =
    0x20 ∷ 0 ∷ 0 ∷ 0 ∷ 0 ∷ 0 ∷ 0 ∷ 0 ∷ 0 ∷ 0 ∷ 0 ∷ 0 ∷ 0 ∷ 0 ∷ 0 ∷ 0
    ∷ 0 ∷ 0 ∷ 0 ∷ 0 ∷ 0 ∷ 0 ∷ 0 ∷ 0 ∷ 0 ∷ 0 ∷ 0 ∷ 0 ∷ 0 ∷ 0 ∷ 0 ∷ 0
    ∷ 0 ∷ 0 ∷ 1 ∷ 0 ∷ 0 ∷ 0 ∷ 1 ∷ 0 ∷ 0 ∷ 0 ∷ 0 ∷ 0 ∷ 0 ∷ 0x40 ∷ 0 ∷ 0
    ∷ 0 ∷ 0 ∷ 2 ∷ 0 ∷ 0 ∷ 0 ∷ 0
    ∷ []

abbrev pub missing_read_bytes : List ℕ
missing_read_bytes =
    0x20 ∷ 0 ∷ 0 ∷ 0 ∷ 0 ∷ 0 ∷ 0 ∷ 0 ∷ 0 ∷ 0 ∷ 0 ∷ 0 ∷ 0 ∷ 0 ∷ 0 ∷ 0
    ∷ 0 ∷ 0 ∷ 0 ∷ 0 ∷ 0 ∷ 0 ∷ 0 ∷ 0 ∷ 0 ∷ 0 ∷ 0 ∷ 0 ∷ 0 ∷ 0 ∷ 0 ∷ 0
    ∷ 0 ∷ 0 ∷ 1 ∷ 0 ∷ 0 ∷ 0 ∷ 2 ∷ 0 ∷ 0 ∷ 0 ∷ 0 ∷ 0 ∷ 0 ∷ 0x40 ∷ 0 ∷ 0
    ∷ 0 ∷ 0 ∷ 1 ∷ 0 ∷ 0 ∷ 0 ∷ 0
    ∷ []

-- an exit of the second processor, of which there is none
abbrev pub second_processor_bytes : List ℕ
second_processor_bytes =
    0x21 ∷ 1 ∷ 0 ∷ 0 ∷ 0 ∷ 0 ∷ 0 ∷ 0 ∷ 0 ∷ 0 ∷ 0 ∷ 0 ∷ 0 ∷ 0 ∷ 0 ∷ 0
    ∷ 0 ∷ 0 ∷ 0 ∷ 0 ∷ 0 ∷ 0 ∷ 0 ∷ 0 ∷ 0 ∷ 0 ∷ 0 ∷ 0 ∷ 0 ∷ 0 ∷ 0 ∷ 0
    ∷ 0 ∷ 0
    ∷ []

-- an application without an image
abbrev pub app_bytes : List ℕ
app_bytes =
    2 ∷ 0x11 ∷ 0x11 ∷ 0x11 ∷ 0x11 ∷ 0x22 ∷ 0x22 ∷ 0x33 ∷ 0x33 ∷ 0x44 ∷ 0x44 ∷ 0x55 ∷ 0x55 ∷ 0x55 ∷ 0x55 ∷ 0x55
    ∷ 0x55 ∷ 0 ∷ 0 ∷ 0 ∷ 0
    ∷ []

pub record Examples : Type 0 where
  -- what is written, byte for byte
  pub written : spelling small_boot (asks ∷ answers ∷ []) ≡ whole_bytes
  pub key_written : spelling keyed_boot (asks ∷ answers ∷ []) ≡ keyed_bytes
  pub boot_written : boot_record (record { cpus = 2; threads = 16; frames = 60; apps = []; key = [] }) ≡ 1 ∷ 2 ∷ 16 ∷ 60 ∷ 0 ∷ []
  pub many_frames_written : boot_record (record { cpus = 1; threads = 2; frames = 1024; apps = []; key = [] }) ≡ 1 ∷ 1 ∷ 2 ∷ 0 ∷ 4 ∷ []
  pub reads_a_head_written : event_record reads_a_head ≡ reads_a_head_bytes
  pub reads_three_times_written : event_record reads_three_times ≡ reads_three_times_bytes
  pub reads_the_last_bytes_written : event_record reads_the_last_bytes ≡ reads_the_last_bytes_bytes
  pub granted_many_steps_written : event_record granted_many_steps ≡ granted_many_steps_bytes
  pub goes_out_for_a_request_written : event_record goes_out_for_a_request ≡ goes_out_for_a_request_bytes
  pub goes_out_interrupted_written : event_record goes_out_interrupted ≡ goes_out_interrupted_bytes
  -- what is read, how many bytes are used of those with two behind the end, and how many records
  pub read : Spells [] whole_bytes (record { boot = small_boot; events = asks ∷ answers ∷ []; used = length whole_bytes; records = 4 })
  pub read_of_more : Spells [] (whole_bytes ++ 0x7f ∷ 1 ∷ []) (record { boot = small_boot; events = asks ∷ answers ∷ []; used = 86; records = 4 })
  pub no_events : Spells [] (magic_bytes ++ boot_bytes ++ 0x7f ∷ []) (record { boot = small_boot; events = []; used = 10; records = 2 })
  pub read_key : Spells [] keyed_bytes (record { boot = keyed_boot; events = asks ∷ answers ∷ []; used = length keyed_bytes; records = 5 })
  pub read_zero_key : Spells [] (magic_bytes ++ boot_bytes ++ zero_key_record ++ 0x7f ∷ []) (record { boot = small_boot; events = []; used = 43; records = 3 })
  -- what is refused, where and for which cause
  pub no_bytes : IsFirstFault [] ([]) 0 bad.Cut
  pub other_magic : IsFirstFault [] (0x4f ∷ 0x54 ∷ 0x54 ∷ 0x42 ∷ 0x7f ∷ []) 0 bad.Item
  pub magic_alone : IsFirstFault [] (magic_bytes) 1 bad.Cut
  pub end_before_boot : IsFirstFault [] (magic_bytes ++ 0x7f ∷ []) 1 bad.Place
  pub event_before_boot : IsFirstFault [] (magic_bytes ++ answer_bytes) 1 bad.Place
  pub no_end : IsFirstFault [] (magic_bytes ++ boot_bytes) 2 bad.Cut
  pub cut_boot : IsFirstFault [] (magic_bytes ++ 1 ∷ 9 ∷ 1 ∷ 1 ∷ []) 1 bad.Cut
  pub nine_processors : IsFirstFault [] (magic_bytes ++ 1 ∷ 9 ∷ 1 ∷ 1 ∷ 0 ∷ []) 1 bad.Range
  pub second_boot : IsFirstFault [] (magic_bytes ++ boot_bytes ++ boot_bytes) 2 bad.Place
  pub bytes_of_a_trace : IsFirstFault [] (magic_bytes ++ boot_bytes ++ 3 ∷ []) 2 bad.Item
  pub no_image : IsFirstFault [] (magic_bytes ++ boot_bytes ++ app_bytes) 2 bad.Range
  pub late_app : IsFirstFault [] (magic_bytes ++ boot_bytes ++ answer_bytes ++ app_bytes) 3 bad.Place
  pub key_before_boot : IsFirstFault [] (magic_bytes ++ key_record) 1 bad.Place
  pub second_key : IsFirstFault [] (magic_bytes ++ boot_bytes ++ key_record ++ key_record) 3 bad.Place
  pub second_zero_key : IsFirstFault [] (magic_bytes ++ boot_bytes ++ zero_key_record ++ zero_key_record) 3 bad.Place
  pub late_key : IsFirstFault [] (magic_bytes ++ boot_bytes ++ answer_bytes ++ key_record) 3 bad.Place
  pub cut_key : IsFirstFault [] (magic_bytes ++ boot_bytes ++ cut_key_bytes) 2 bad.Cut
  pub app_behind_key : IsFirstFault [] (magic_bytes ++ boot_bytes ++ key_record ++ app_bytes) 3 bad.Range
  pub no_steps : IsFirstFault [] (magic_bytes ++ boot_bytes ++ no_steps_bytes) 2 bad.Range
  pub no_read : IsFirstFault [] (magic_bytes ++ boot_bytes ++ no_read_bytes) 2 bad.Range
  pub below_ram : IsFirstFault [] (magic_bytes ++ boot_bytes ++ below_ram_bytes) 2 bad.Range
  pub behind_ram : IsFirstFault [] (magic_bytes ++ boot_bytes ++ behind_ram_bytes) 2 bad.Range
  pub cut_read : IsFirstFault [] (magic_bytes ++ boot_bytes ++ cut_read_bytes) 2 bad.Cut
  pub missing_read : IsFirstFault [] (magic_bytes ++ boot_bytes ++ missing_read_bytes) 2 bad.Cut
  pub second_processor : IsFirstFault [] (magic_bytes ++ boot_bytes ++ second_processor_bytes) 2 bad.Cpu
  pub second_fault : IsFirstFault [] (magic_bytes ++ boot_bytes ++ asking_bytes ++ answer_bytes ++ no_steps_bytes) 4 bad.Range
