use Rattle.std.proofs.Common.{refl}
use Rattle.hex.specs.Hex.{encode_with}
use Rattle.hmac.specs.Hmac.{hmac}
use Rattle.sha2.specs.Sha256.{compress, digest_bytes, first_words, hash_after, rounds, schedule, sha256}
use Rattle.tee_storage.specs.Examples.{HandleExamples}
use Rattle.tee_storage.specs.KnownTags.{KnownTags}
use Rattle.tee_storage.specs.OpenObjectExamples.{OpenObjectExamples}
use Rattle.tee_storage.specs.OpeningExamples.{OpeningExamples}
use Rattle.tee_storage.specs.TagBorders.{TagBorders}
use Rattle.tee_storage.specs.TagExamples.{TagExamples}
use Rattle.tee_storage.proofs.examples.worked_examples.Goals as goal

handles : HandleExamples
handles = record {
  none_open = refl;
  between = refl;
  after = refl;
  seven = refl;
  full = refl;
  kept = refl;
  absent = refl;
  taken = refl;
  listed = refl;
}

opening : OpeningExamples
unfolding encode_with
opening = record {
  file_asked = refl;
  header_asked = refl;
  created = refl;
  behind_the_end = refl;
  not_found = refl;
  in_conflict = refl;
  not_available = refl;
  no_buffer = refl;
  without_id = refl;
  long_id = λ range. refl;
  all_open = refl;
  open_asked = refl;
  read_asked = refl;
  opened = refl;
  opened_tagged = refl;
  opened_longest = refl;
  corrupt_magic = refl;
  corrupt_length = refl;
  corrupt_size = refl;
}

open_objects : OpenObjectExamples
open_objects = record {
  one_piece = refl;
  one_byte_more = refl;
  no_piece = refl;
  read_asked = refl;
  read = refl;
  read_rest = refl;
  read_at_end = refl;
  read_nothing = refl;
  short_piece = refl;
  long_piece = refl;
  failed_piece = refl;
  second_asked = refl;
  both_read = refl;
  second_failed = refl;
  second_without_buffer = refl;
  to_the_end = refl;
  past_the_end = refl;
  close_asked = refl;
  closed = refl;
  close_failed = refl;
  close_without_buffer = refl;
  delete_asked = refl;
  remove_asked = refl;
  deleted = refl;
  remove_failed = refl;
  delete_without_buffer = refl;
  remove_without_buffer = refl;
  read_unknown = refl;
  write_unknown = refl;
  seek_unknown = refl;
  close_unknown = refl;
  delete_unknown = refl;
}

tags : TagExamples
tags = record {
  data_asked = refl;
  tag_asked = refl;
  short_data = refl;
  short_tag = refl;
  tag_failed = refl;
  tag_without_buffer = refl;
  read_nothing = refl;
  without_tag = refl;
  checked = refl;
  differs = refl;
  first_part = refl;
  both_parts = refl;
  part_before = refl;
  part_behind = refl;
  old_asked = refl;
  old_tag_asked = refl;
  bytes_asked = refl;
  new_tag_asked = refl;
  replaced_whole = refl;
  tag_of_replaced = refl;
  longer_tag = refl;
  longer_header = refl;
  lengthened_whole = refl;
  tag_of_lengthened = refl;
  header_failed = refl;
  no_old_tag = refl;
  new_header = refl;
  becomes_tagged = refl;
  nothing_to_read = refl;
  tag_alone = refl;
  write_nothing = refl;
  write_too_long = refl;
  write_unknown = refl;
}

borders : TagBorders
unfolding encode_with
borders = record {
  front = refl;
  opened_empty = refl;
  opened_longest = refl;
  corrupt_length = refl;
  ten_pieces = refl;
  last_piece = refl;
  last_byte_read = refl;
  last_tag_read = refl;
  whole_read = refl;
  nothing_left = refl;
  over_the_end = refl;
  past_the_limit = refl;
  up_to_the_limit = refl;
  limit_tag = refl;
  limit_header = refl;
  limit_written = refl;
  no_tag = refl;
  cut_tag = refl;
  long_tag = refl;
  missing_byte = refl;
  old_tag_right = refl;
  old_tag_wrong = refl;
  old_tag_cut = refl;
  old_tag_failed = refl;
  old_tag_without_buffer = refl;
  new_tag_behind_it = refl;
  old_data_short = refl;
  new_tag_failed = refl;
  new_tag_without_buffer = refl;
  stays_untagged = refl;
  empty_read = refl;
  empty_untagged_read = refl;
  first_tag = refl;
  first_header = refl;
  first_written = refl;
  untagged_written = refl;
  same_length = refl;
  seek_past = refl;
  seek_to_the_end = refl;
  append_begins = refl;
  append_bytes = refl;
  append_tag = refl;
  append_header = refl;
  appended = refl;
  tag_of_appended = refl;
  tag_of_one_byte = refl;
  tag_of_first = refl;
  rest_asked = refl;
  tag_behind_both = refl;
}

known : KnownTags
unfolding encode_with hmac first_words schedule rounds compress hash_after digest_bytes sha256
known = record {
  second_case = refl;
  none = refl;
  of_six = refl;
  created = refl;
  read = refl;
  changed = refl;
  shortened = refl;
  given_back = refl;
  replaced = refl;
  replaced_untagged = refl;
  lengthened = refl;
}

pub returns : goal.returns
returns c = record { handles = handles; opening = opening; open_objects = open_objects; tags = tags; borders = borders; known = known }
