-- Calls that bring an area along for the arguments of their requests, some of them named by a cookie.
use Rattle.std.specs.Prelude.{◌≡◌, ℕ, ◌+◌, List, [], ◌∷◌, ◌++◌, Some, None, length, replicate}
use Rattle.ns_ram.specs.Examples.{read_of}
use Rattle.ns_ram.specs.Reads.{listed}
use Rattle.ns_ram.specs.Writes.{Write}
use Rattle.ns_ram.specs.declared.read.Read.{Read}
use Rattle.ta_isa.specs.declared.image.Image.{Image}
use Rattle.ta_step.specs.Examples.{instr}
use Rattle.kernel_model.specs.StorageExamples.{file, first_bytes, header}
use Rattle.kernel_model.specs.Worked.{add, store, load, time, wait, boot, half, word, head, used_head, param, image_with}
use Rattle.kernel_model.specs.Worked.{invoked_at_one, names, adds, invokes, Comes, Leaves, Move, call_of, open_argument}
use Rattle.kernel_model.specs.Worked.{resume_of, both, call, resume, offer, opens, returns_after, Return, answer}
use Rattle.kernel_model.specs.Worked.{writes_at, ok, opened, wants_buffer, gives_back, requests, tells, asks_time, with_a5}
use Rattle.kernel_model.specs.Worked.{refused, registers, register_argument, unregister_argument, list_of}

-- ---- calls

-- with the argument at an address; and with it in the buffer of a cookie, at an offset
abbrev pub area_call_of : ℕ → List ℕ
area_call_of addr = 0x32000012 ∷ 0 ∷ addr ∷ replicate 5 0

abbrev pub named_call_of : ℕ → ℕ → List ℕ
named_call_of cookie offset = 0x32000013 ∷ 0 ∷ cookie ∷ offset ∷ replicate 4 0

-- the reads of an argument at an address
abbrev pub argument_in : ℕ → List ℕ → List ℕ → List Read
argument_in addr head_bytes params = read_of addr head_bytes ∷ listed (addr + 32) params

-- a call at 40000000, and one that is named
abbrev pub area_call : ℕ → ℕ → List Read → List Move
area_call cpu steps reads = both cpu steps (area_call_of 0x40000000) reads

abbrev pub named_call : ℕ → ℕ → ℕ → ℕ → List Read → List Move
named_call cpu steps cookie offset reads = both cpu steps (named_call_of cookie offset) reads

-- an invoke of the function 250 there, and its head alone
abbrev pub invoke_head : List ℕ
invoke_head = head 1 250 1 0

abbrev pub invokes_in : ℕ → List Read
invokes_in addr = argument_in addr invoke_head []

-- the page at 40200000 is the buffer 31
abbrev pub with_page : List Move
with_page = opens ++ call 0 1000 (register_argument 0x40100000 0x1000 0x31 ++ list_of 0x40200000)

-- two pages apart are the buffer 31, of which the first byte is at an offset in the first
abbrev pub with_pages_from : ℕ → ℕ → List Move
with_pages_from offset bytes =
    opens ++ call 0 1000 (register_argument (0x40100000 + offset) bytes 0x31
    ++ read_of 0x40100000 (word 0x40200000 ++ word 0x40204000) ∷ [])

-- and so are two pages that are neighbours
abbrev pub with_neighbours : List Move
with_neighbours =
    opens ++ call 0 1000 (register_argument 0x40100000 0x2000 0x31
    ++ read_of 0x40100000 (word 0x40200000 ++ word 0x40201000) ∷ [])

-- while a call whose argument that buffer has at an offset is inside, another processor unregisters the buffer
abbrev pub unregistered_meanwhile : ℕ → List Read → List Move
unregistered_meanwhile offset reads =
    Comes 0 (named_call_of 0x31 offset) 9 reads ∷ call 1 9 (unregister_argument 0x31)

-- and again when it has gone out
abbrev pub unregistered_twice : List Read → List Move
unregistered_twice reads = unregistered_meanwhile 0 reads ++ Leaves 0 ∷ call 1 9 (unregister_argument 0x31)

-- ---- what comes of them

-- a request is in the area at an address; the caller gave this in a5
abbrev pub asks_in : ℕ → ℕ → ℕ → List ℕ → Return
asks_in thread area a5 bytes = requests thread area 0 a5 bytes

-- a request whose argument is in the area at 40000020, and whose payload is in the buffer at 40010000 with the cookie 77
abbrev pub payload_of : List ℕ → List Write
payload_of [] = []
payload_of (byte ∷ bytes) = writes_at 0x40010200 (byte ∷ bytes) ∷ []

abbrev pub file_request : ℕ → ℕ → List ℕ → List ℕ → Return
file_request a5 count params payload = (
  0xffff0005 ∷ 0 ∷ 0 ∷ 0 ∷ 0 ∷ a5 ∷ 0 ∷ 0 ∷ [],
  writes_at 0x40000020 (used_head 2 0 0 0 0xffff0000 0 count ++ params) ∷ payload_of payload,
)

-- the file is to be created, and the header and the tag of no bytes are to be written to it
abbrev pub creates_file : Return
creates_file = file_request 0x77 3 (param 1 1 0 0 ++ param 9 0x40010200 35 0x77 ++ param 2 0 0 0) file

abbrev pub writes_first : ℕ → Return
writes_first fd = file_request 0 2 (param 1 4 fd 0 ++ param 9 0x40010200 40 0x77) first_bytes

-- the file is to be opened, and so many bytes of it are to be read from an offset on
abbrev pub opens_file : Return
opens_file = file_request 0x77 3 (param 1 0 0 0 ++ param 9 0x40010200 35 0x77 ++ param 2 0 0 0) file

abbrev pub reads_file : ℕ → ℕ → ℕ → Return
reads_file fd offset len = file_request 0 2 (param 1 3 fd offset ++ param 0xa 0x40010200 len 0x77) []

-- the file of a descriptor is to be closed
abbrev pub closes_file : ℕ → Return
closes_file fd = asks_in 0 0x40000020 0 (used_head 2 0 0 0 0xffff0000 0 1 ++ param 1 2 fd 0)

-- the reads of a reply in the area at 40000020: the result, and behind it a descriptor, a time, or the size of a piece,
-- whose bytes are in the buffer
abbrev pub ret_in_area : ℕ → List Read
ret_in_area ret = read_of 0x40000034 (half ret) ∷ []

abbrev pub opened_in_area : ℕ → ℕ → List Read
opened_in_area ret fd = ret_in_area ret ++ read_of 0x40000088 (word fd) ∷ []

abbrev pub time_in_area : ℕ → ℕ → List Read
time_in_area seconds nanoseconds =
    ret_in_area 0 ++ read_of 0x40000048 (word seconds) ∷ read_of 0x40000050 (word nanoseconds) ∷ []

abbrev pub piece_in_area : List ℕ → List Read
piece_in_area bytes = ret_in_area 0 ++ read_of 0x40000070 (word (length bytes)) ∷ read_of 0x40010200 bytes ∷ []

abbrev pub replies : List Read → List Move
replies reads = both 0 20 (resume_of 0 0) reads

-- OK, with result and origin in the argument at an address
abbrev pub ok_in : ℕ → ℕ → ℕ → Return
ok_in addr code origin =
    (answer 0, writes_at (addr + 20) (half code) ∷ writes_at (addr + 24) (half origin) ∷ [])

-- makes an object of the id 41 (hexadecimal), where the function is 0, and else deletes that of the handle 0
abbrev pub keep : Image
keep = image_with 0 invoked_at_one (
    instr 0x18 0 0 0 0
    ∷ instr 0x12 0 0 3 8
    ∷ instr 0x01 2 0 0 0x41
    ∷ instr 0x0f 0 3 2 0
    ∷ instr 0x01 0 0 0 0
    ∷ instr 0x01 1 0 0 1
    ∷ instr 0x18 0 0 0 13
    ∷ instr 0x18 0 0 0 0
    ∷ instr 0x01 0 0 0 0
    ∷ instr 0x18 0 0 0 19
    ∷ instr 0x18 0 0 0 0
    ∷ [])

-- makes an object of that id and asks for the time
abbrev pub store_and_ask : Image
store_and_ask = image_with 0 invoked_at_one (
    instr 0x18 0 0 0 0
    ∷ instr 0x01 2 0 0 0x41
    ∷ instr 0x0f 0 3 2 0
    ∷ instr 0x01 0 0 0 0
    ∷ instr 0x01 1 0 0 1
    ∷ instr 0x18 0 0 0 13
    ∷ instr 0x18 0 0 0 11
    ∷ instr 0x18 0 0 0 0
    ∷ [])

-- a call with an area gets a buffer as it asks for one, and the file of its object gets the descriptor 3
abbrev pub buffer_given : List Move
buffer_given = offer 0 20 0 0x40010000 0x77 ++ replies (opened_in_area 0 3)

-- an object made over the area: its file, its header and tag, and the buffer is given back
abbrev pub makes_object : List Move
makes_object = area_call 0 20 (invokes 1 0) ++ buffer_given ++ replies (ret_in_area 0) ++ resume 0 20 0

pub record AreaExamples : Type 0 where
  -- a call asks in its area, and wants no buffer; a cookie 0 tells that
  pub suspended : returns_after (boot 1 1 1 wait) opens (area_call 0 9 (invokes 1 250) ++ resume 0 9 0)
      ≡ Some (asks_in 0 0x40000020 0 (tells 5 250 0) ∷ ok 0 4 ∷ [])
  -- the area is behind the parameters, and isn't read at the entry
  pub behind_parameters : returns_after (boot 1 1 1 wait) opens
      (area_call 0 9 (argument_in 0x40000000 (head 1 250 1 2) (param 1 5 7 0 ++ param 0 0 0 0)))
      ≡ Some (asks_in 0 0x40000060 0 (tells 5 250 0) ∷ [])
  pub area_unread : returns_after (boot 1 1 1 wait) opens
      (area_call 0 9 (argument_in 0x40000000 invoke_head (replicate 160 0))) ≡ None
  -- the reply is read there, and a buffer that the resume offers is none
  pub time_told : returns_after (boot 1 1 1 time) opens
      (area_call 0 9 (invokes 1 0) ++ replies (time_in_area 5 6))
      ≡ Some (asks_in 0 0x40000020 0 asks_time ∷ ok 0 4 ∷ [])
  pub time_read_elsewhere : returns_after (boot 1 1 1 time) opens
      (area_call 0 9 (invokes 1 0)
      ++ replies (read_of 0x40000014 (half 0) ∷ read_of 0x40000028 (word 5) ∷ read_of 0x40000030 (word 6) ∷ []))
      ≡ None
  pub buffer_unwanted : returns_after (boot 1 1 1 wait) opens
      (area_call 0 9 (invokes 1 250) ++ offer 0 9 0 0x40010000 0x77)
      ≡ Some (asks_in 0 0x40000020 0 (tells 5 250 0) ∷ with_a5 0x77 (ok 0 4) ∷ [])
  -- in registered memory
  pub named : returns_after (boot 1 1 1 wait) with_page (named_call 0 9 0x31 0x100 (invokes_in 0x40200100) ++ resume 0 9 0)
      ≡ Some (asks_in 0 0x40200120 0 (tells 5 250 0) ∷ ok_in 0x40200100 0 4 ∷ [])
  -- another cookie, an offset that isn't below the size, and one that is no multiple of 8: nothing is read
  pub another_cookie : returns_after (boot 1 1 1 wait) with_page (named_call 0 9 0x32 0x100 []) ≡ Some (refused 4 ∷ [])
  pub offset_at_the_size : returns_after (boot 1 1 1 wait) with_page (named_call 0 9 0x31 0x1000 []) ≡ Some (refused 4 ∷ [])
  pub offset_unaligned : returns_after (boot 1 1 1 wait) with_page (named_call 0 9 0x31 0x104 []) ≡ Some (refused 4 ∷ [])
  -- the last argument of a page, and one whose area passes its end, of which the head alone is read
  pub last_of_a_page : returns_after (boot 1 1 1 wait) with_page (named_call 0 9 0x31 0xf40 (invokes_in 0x40200f40))
      ≡ Some (asks_in 0 0x40200f60 0 (tells 5 250 0) ∷ [])
  pub past_a_page : returns_after (boot 1 1 1 wait) with_page (named_call 0 9 0x31 0xf48 (read_of 0x40200f48 invoke_head ∷ []))
      ≡ Some (refused 4 ∷ [])
  -- pages that are neighbours: neither an argument with its area nor a head passes the end of the first
  pub past_a_page_of_two : returns_after (boot 1 1 1 wait) with_neighbours
      (named_call 0 9 0x31 0xf48 (read_of 0x40200f48 invoke_head ∷ [])) ≡ Some (refused 4 ∷ [])
  pub head_ends_with_a_page : returns_after (boot 1 1 1 wait) with_neighbours
      (named_call 0 9 0x31 0xfe0 (read_of 0x40200fe0 invoke_head ∷ [])) ≡ Some (refused 4 ∷ [])
  pub head_past_a_page : returns_after (boot 1 1 1 wait) with_neighbours (named_call 0 9 0x31 0xfe8 [])
      ≡ Some (refused 4 ∷ [])
  pub second_page : returns_after (boot 1 1 1 wait) with_neighbours (named_call 0 9 0x31 0x1000 (invokes_in 0x40201000))
      ≡ Some (asks_in 0 0x40201020 0 (tells 5 250 0) ∷ [])
  -- pages that aren't neighbours, and a head that passes the end of the first
  pub page_apart : returns_after (boot 1 1 1 wait) (with_pages_from 0 0x2000)
      (named_call 0 9 0x31 0x1100 (invokes_in 0x40204100))
      ≡ Some (asks_in 0 0x40204120 0 (tells 5 250 0) ∷ [])
  pub over_an_edge : returns_after (boot 1 1 1 wait) (with_pages_from 0 0x2000) (named_call 0 9 0x31 0xff0 [])
      ≡ Some (refused 4 ∷ [])
  -- the offset counts from the buffer's first byte, and the buffer ends an argument as a page does
  pub from_the_first_byte : returns_after (boot 1 1 1 wait) (with_pages_from 0x10 0x1ff0)
      (named_call 0 9 0x31 0xf0 (invokes_in 0x40200100))
      ≡ Some (asks_in 0 0x40200120 0 (tells 5 250 0) ∷ [])
  pub last_of_a_buffer : returns_after (boot 1 1 1 wait) (with_pages_from 0 0x1100)
      (named_call 0 9 0x31 0x1040 (invokes_in 0x40204040))
      ≡ Some (asks_in 0 0x40204060 0 (tells 5 250 0) ∷ [])
  pub past_a_buffer : returns_after (boot 1 1 1 wait) (with_pages_from 0 0x1100)
      (named_call 0 9 0x31 0x1048 (read_of 0x40204048 invoke_head ∷ []))
      ≡ Some (refused 4 ∷ [])
  pub head_past_a_buffer : returns_after (boot 1 1 1 wait) (with_pages_from 0 0x1100) (named_call 0 9 0x31 0x10e8 [])
      ≡ Some (refused 4 ∷ [])
  -- the last area of RAM, and one that passes its end
  pub last_of_ram : returns_after (boot 1 1 1 wait) opens (both 0 9 (area_call_of 0x403fff40) (invokes_in 0x403fff40))
      ≡ Some (asks_in 0 0x403fff60 0 (tells 5 250 0) ∷ [])
  pub past_ram : returns_after (boot 1 1 1 wait) opens
      (both 0 9 (area_call_of 0x403fff48) (read_of 0x403fff48 invoke_head ∷ []))
      ≡ Some (refused 4 ∷ [])
  -- an address that is no multiple of 8, and a head that passes the end of RAM: nothing is read
  pub address_unaligned : returns_after (boot 1 1 1 wait) opens (both 0 9 (area_call_of 0x40000004) [])
      ≡ Some (refused 4 ∷ [])
  pub head_past_ram : returns_after (boot 1 1 1 wait) opens (both 0 9 (area_call_of 0x403ffff0) [])
      ≡ Some (refused 4 ∷ [])
  -- opens, whose sessions' numbers are told in their arguments
  pub opens_with_an_area : returns_after (boot 1 1 1 wait) [] (area_call 0 9 open_argument) ≡ Some (opened 1 ∷ [])
  pub opens_by_a_cookie : returns_after (boot 1 1 2 wait) with_page
      (named_call 0 9 0x31 0x100 (argument_in 0x40200100 (head 0 0 0 2) names))
      ≡ Some ((
        answer 0,
        writes_at 0x40200108 (half 2) ∷ writes_at 0x40200114 (half 0) ∷ writes_at 0x40200118 (half 4) ∷ [],
      ) ∷ [])
  -- a count above 6, and a command that isn't served
  pub count : returns_after (boot 1 1 1 wait) with_page
      (named_call 0 9 0x31 0 (read_of 0x40200000 (head 1 0 1 7) ∷ [])) ≡ Some (refused 4 ∷ [])
  pub command : returns_after (boot 1 1 1 wait) with_page
      (named_call 0 9 0x31 0 (read_of 0x40200000 (head 6 0 0 0) ∷ [])) ≡ Some (refused 5 ∷ [])
  -- the cookie is pinned until OK
  pub pinned : returns_after (boot 2 2 1 wait) with_page
      (named_call 0 9 0x31 0x100 (invokes_in 0x40200100) ++ call 1 9 (unregister_argument 0x31) ++ resume 0 9 0
      ++ call 1 9 (unregister_argument 0x31))
      ≡ Some (asks_in 0 0x40200120 0 (tells 5 250 0) ∷ ok 0xffff000d 3 ∷ ok_in 0x40200100 0 4 ∷ ok 0 3 ∷ [])
  -- whatever the tests behind the third come to: of a register, of parameters that aren't copied, of a shape that is
  -- refused; and by an unregister of its own
  pub pinned_by_a_register : returns_after (boot 2 2 1 wait) with_page
      (unregistered_twice (argument_in 0x40200000 (head 4 0 0 1) (registers 0x40101000 0x1000 0x32)
      ++ read_of 0x40101000 (word 0x40300000) ∷ []))
      ≡ Some (ok 0xffff000d 3 ∷ ok_in 0x40200000 0 3 ∷ ok 0 3 ∷ [])
  pub pinned_though_not_copied : returns_after (boot 2 2 1 wait) with_page
      (unregistered_twice (argument_in 0x40200000 (head 1 0 1 1) (param 9 0x40002000 65537 0)))
      ≡ Some (ok 0xffff000d 3 ∷ ok_in 0x40200000 0xffff0006 3 ∷ ok 0 3 ∷ [])
  pub pinned_though_refused : returns_after (boot 2 2 1 wait) with_page
      (unregistered_twice (argument_in 0x40200000 (head 4 0 0 0) []))
      ≡ Some (ok 0xffff000d 3 ∷ ok_in 0x40200000 0xffff0006 3 ∷ ok 0 3 ∷ [])
  pub pinned_by_itself : returns_after (boot 1 1 1 wait) with_page
      (named_call 0 9 0x31 0 (argument_in 0x40200000 (head 5 0 0 1) (param 5 0 0 0x31)) ++ call 0 9 (unregister_argument 0x31))
      ≡ Some (ok_in 0x40200000 0xffff000d 3 ∷ ok 0 3 ∷ [])
  -- but not where one of the first three fails: the third, and the second once the head was read
  pub unpinned : returns_after (boot 2 2 1 wait) with_page
      (unregistered_meanwhile 0 (read_of 0x40200000 (head 6 0 0 0) ∷ [])) ≡ Some (ok 0 3 ∷ [])
  pub unpinned_by_a_count : returns_after (boot 2 2 1 wait) with_page
      (unregistered_meanwhile 0 (read_of 0x40200000 (head 1 0 1 7) ∷ [])) ≡ Some (ok 0 3 ∷ [])
  pub unpinned_past_a_page : returns_after (boot 2 2 1 wait) with_page
      (unregistered_meanwhile 0xf48 (read_of 0x40200f48 invoke_head ∷ [])) ≡ Some (ok 0 3 ∷ [])
  -- a request with a payload wants a buffer; its argument is in the area, and its payload in the buffer, which is given
  -- back before OK
  pub without_a_buffer : returns_after (boot 1 1 1 store) opens (area_call 0 9 (invokes 1 0) ++ resume 0 9 0)
      ≡ Some (wants_buffer 0 ∷ ok 0xffff000c 4 ∷ [])
  pub with_a_buffer : returns_after (boot 1 1 1 store) opens makes_object
      ≡ Some (wants_buffer 0 ∷ creates_file ∷ writes_first 3 ∷ gives_back 0 0x77 ∷ ok 0 4 ∷ [])
  -- a reply is read in both: what the argument has in the area, and the bytes in the buffer
  pub reads_in_both : returns_after (boot 1 1 1 load) opens
      (area_call 0 20 (invokes 1 0) ++ buffer_given ++ replies (piece_in_area (header 4))
      ++ replies (piece_in_area (0x61 ∷ 0x62 ∷ 0x63 ∷ 0x64 ∷ [])) ++ resume 0 20 0)
      ≡ Some (wants_buffer 0 ∷ opens_file ∷ reads_file 3 0 8 ∷ reads_file 3 8 4 ∷ gives_back 0 0x77 ∷ ok 0 4 ∷ [])
  -- a request without a payload is in the area also where a buffer is held
  pub asks_beside_a_buffer : returns_after (boot 1 1 1 store_and_ask) opens
      (area_call 0 20 (invokes 1 0) ++ buffer_given ++ replies (ret_in_area 0) ++ replies (time_in_area 5 6)
      ++ resume 0 20 0)
      ≡ Some (wants_buffer 0 ∷ creates_file ∷ writes_first 3 ∷ asks_in 0 0x40000020 0 asks_time ∷ gives_back 0 0x77
      ∷ ok 0 4 ∷ [])
  -- of a delete the close goes by the area, and the removal then gets no buffer
  pub removal_without_a_buffer : returns_after (boot 1 1 1 keep) (opens ++ makes_object)
      (area_call 0 20 (invokes 1 1) ++ replies (ret_in_area 0) ++ resume 0 20 0)
      ≡ Some (closes_file 3 ∷ wants_buffer 0 ∷ ok 0xffff000c 4 ∷ [])
  -- a call that waits sleeps by its area, and one that has ended wakes by it
  pub sleeps : returns_after (boot 2 2 1 wait) opens (call 0 9 (invokes 1 250) ++ area_call 1 9 (invokes 1 250) ++ resume 1 9 1)
      ≡ Some (wants_buffer 0 ∷ asks_in 1 0x40000020 0 (tells 4 0 1) ∷ asks_in 1 0x40000020 0 (tells 4 0 1) ∷ [])
  pub wakes : returns_after (boot 2 2 1 wait) opens
      (area_call 0 9 (invokes 1 250) ++ call 1 9 (invokes 1 250) ++ resume 0 9 0 ++ resume 0 9 0)
      ≡ Some (asks_in 0 0x40000020 0 (tells 5 250 0) ∷ wants_buffer 1 ∷ asks_in 0 0x40000020 0 (tells 4 1 1) ∷ ok 0 4 ∷ [])
  -- with a buffer it wakes by the area too, and then gives the buffer back
  pub wakes_and_gives_back : returns_after (boot 2 2 1 store) opens
      (area_call 0 20 (invokes 1 0) ++ call 1 20 (invokes 1 0) ++ buffer_given ++ replies (ret_in_area 0)
      ++ resume 0 20 0 ++ resume 0 20 0)
      ≡ Some (wants_buffer 0 ∷ wants_buffer 1 ∷ creates_file ∷ writes_first 3 ∷ asks_in 0 0x40000020 0 (tells 4 1 1)
      ∷ gives_back 0 0x77 ∷ ok 0 4 ∷ [])
  -- no slot is free: nothing is read or tested
  pub no_slot : returns_after (boot 2 1 1 add) (opens ++ Comes 0 (call_of 0) 9 (adds 5 7) ∷ [])
      (call 1 9 [] ++ area_call 1 9 [] ++ named_call 1 9 0x31 0 [] ++ both 1 9 (area_call_of 4) [])
      ≡ Some (refused 1 ∷ refused 1 ∷ refused 1 ∷ refused 1 ∷ [])
