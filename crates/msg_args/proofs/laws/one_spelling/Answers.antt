use Rattle.msg_args.proofs.Spellings.{argument-spelling, argument_spells, one_argument}
use Rattle.msg_args.proofs.Valid.{attributes}
use Rattle.std.proofs.Common.{sym}
use Rattle.msg_args.proofs.laws.one_spelling.Goals as goal

pub returns-clause-reads_back : goal.returns-clause-reads_back
returns-clause-reads_back c = argument-spelling

pub returns-clause-writes_back : goal.returns-clause-writes_back
returns-clause-writes_back c = λ bytes arg fits e. sym (argument_spells bytes arg fits e).spelled

pub returns-clause-at_most_one : goal.returns-clause-at_most_one
returns-clause-at_most_one c = one_argument

pub returns-clause-attributes : goal.returns-clause-attributes
returns-clause-attributes c = attributes
