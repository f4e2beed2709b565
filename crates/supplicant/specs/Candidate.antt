-- The one request that a message can hold, by the command and the first numbers of its argument. Whether it holds that is
-- asked afterwards, so nothing else of the argument is looked at.
use Rattle.std.specs.Prelude.{ℕ, ◌==◌, ◌&&◌, nat_le, nat_lt, if◌then◌else◌, Bool, List, [], ◌∷◌, length, take, Option, Some, None}
use Rattle.std.specs.List.{list_all}
use Rattle.std.specs.Option.{option_map}
use Rattle.msg_args.specs.declared.arg.MsgArg.{MsgArg}
use Rattle.msg_args.specs.declared.param.MsgParam.{MsgParam}
use Rattle.rpc_msgs.specs.declared.rpc.Rpc.{Rpc}
use Rattle.rpc_msgs.specs.declared.rpc.Rpc.TheVariants.{Time, Sleep, Wake, Suspend, FsOpen, FsCreate, FsClose, FsRead, FsWrite, FsRemove}

-- a number of four bytes, where it is one
abbrev pub u32_in : ℕ → Option ℕ
u32_in n = if nat_lt n 0x100000000 then Some n else None

-- a name of a file, of so many bytes of a payload, where they are one
abbrev pub is_file_name : List ℕ → Bool
is_file_name bytes = nat_le (length bytes) 161 && list_all (λ byte. nat_lt byte 128) bytes

abbrev pub name_in : List ℕ → ℕ → Option (List ℕ)
name_in payload len = if is_file_name (take len payload) then Some (take len payload) else None

-- so many bytes of a payload, where a message has room for them
abbrev pub front_of : List ℕ → ℕ → Option (List ℕ)
front_of payload len = if nat_le len 3584 then Some (take len payload) else None

-- how many bytes the second parameter counts, if there is one
abbrev pub len_in : List MsgParam → ℕ
len_in [] = 0
len_in (second ∷ others) = second.q

-- to sleep or to wake
abbrev pub notification_in : MsgParam → Option Rpc
notification_in of =
    if of.p == 0 then option_map Sleep (u32_in of.q)
    else if of.p == 1 then option_map Wake (u32_in of.q)
    else None

-- the request that a message can hold, by the function, of the file system
abbrev pub file_request_in : MsgParam → ℕ → List ℕ → Option Rpc
file_request_in of len payload =
    if of.p == 0 then option_map FsOpen (name_in payload len)
    else if of.p == 1 then option_map FsCreate (name_in payload len)
    else if of.p == 2 then Some (FsClose of.q)
    else if of.p == 3 then option_map (FsRead of.q of.s) (u32_in len)
    else if of.p == 4 then option_map (FsWrite of.q of.s) (u32_in len)
    else if of.p == 6 then option_map FsRemove (name_in payload len)
    else None

-- by the command
abbrev pub of_command : ℕ → MsgParam → ℕ → List ℕ → Option Rpc
of_command cmd of len payload =
    if cmd == 2 then file_request_in of len payload
    else if cmd == 3 then Some Time
    else if cmd == 4 then notification_in of
    else if cmd == 5 then option_map Suspend (u32_in of.p)
    else None

abbrev pub of_params : ℕ → List MsgParam → List ℕ → Option Rpc
of_params cmd [] payload = None
of_params cmd (of ∷ others) payload = of_command cmd of (len_in others) payload

abbrev pub rpc_in : MsgArg → List ℕ → Option Rpc
rpc_in arg payload = of_params arg.head.cmd arg.params.items payload
