-- The words of a command line.
use Rattle.std.specs.Prelude.{◌<◌, List, [], length, drop, String}
use Rattle.std.specs.Global.{Global}
use Rattle.command_line.specs.declared.words.CommandLine.{CommandLine}
use Rattle.command_line.specs.declared.words.CommandLine.TheVariants.{NotText, Text}

-- those behind the program's name; none, where something isn't UTF-8
abbrev pub words_of : CommandLine → List (String Global)
words_of (Text arguments) = drop 1 arguments.items
words_of NotText = []

-- something stands behind the program's name, or something, the name among it, isn't UTF-8
abbrev pub HasWords : CommandLine → Type 0
HasWords (Text arguments) = 1 < length arguments.items
HasWords NotText = Unit {0}
