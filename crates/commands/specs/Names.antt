-- The names of the commands, in ASCII.
use Rattle.std.specs.Prelude.{Bool, true, cond, List, ℕ, Option, Some, None, codes}
use Rattle.text.specs.Reading.{same_bytes}
use Rattle.lines.specs.Lines.{rise_word}
use Rattle.commands.specs.declared.Asked.TheVariants.{Share, Factor, Current}
use Rattle.commands.specs.declared.Command.{Command}
use Rattle.commands.specs.declared.Command.TheVariants.{Calculate, Rise, Explain, Help, Version}

-- "rise" stands with the lines
abbrev pub share_word : List ℕ
share_word = codes "share"

abbrev pub factor_word : List ℕ
factor_word = codes "factor"

abbrev pub current_word : List ℕ
current_word = codes "current"

abbrev pub explain_word : List ℕ
explain_word = codes "explain"

abbrev pub asks_help : List ℕ → Bool
asks_help word =
    cond (same_bytes word (codes "help")) true
    (cond (same_bytes word (codes "--help")) true
    (same_bytes word (codes "-h")))

abbrev pub asks_version : List ℕ → Bool
asks_version word =
    cond (same_bytes word (codes "version")) true
    (same_bytes word (codes "--version"))

unfoldable pub command_of : List ℕ → Option Command
command_of word =
    cond (same_bytes word share_word) (Some (Calculate Share))
    (cond (same_bytes word factor_word) (Some (Calculate Factor))
    (cond (same_bytes word current_word) (Some (Calculate Current))
    (cond (same_bytes word rise_word) (Some Rise)
    (cond (same_bytes word explain_word) (Some Explain)
    (cond (asks_help word) (Some Help)
    (cond (asks_version word) (Some Version)
    None))))))
