-- Worked examples of the commands' names. Each text is given above its bytes.
use Rattle.std.specs.Prelude.{◌≡◌, refl, [], ◌∷◌, Some, None}
use Rattle.text.specs.Reading.{same_bytes}
use Rattle.commands.specs.Names.{command_of}
use Rattle.commands.specs.declared.Asked.TheVariants.{Share, Factor, Current}
use Rattle.commands.specs.declared.Command.TheVariants.{Calculate, Rise, Explain, Help, Version}

-- "share"
names_share : command_of (115 ∷ 104 ∷ 97 ∷ 114 ∷ 101 ∷ []) ≡ Some (Calculate Share)
unfolding command_of same_bytes
names_share = refl

-- "current"
names_current : command_of (99 ∷ 117 ∷ 114 ∷ 114 ∷ 101 ∷ 110 ∷ 116 ∷ []) ≡ Some (Calculate Current)
unfolding command_of same_bytes
names_current = refl

-- "factor"
names_factor : command_of (102 ∷ 97 ∷ 99 ∷ 116 ∷ 111 ∷ 114 ∷ []) ≡ Some (Calculate Factor)
unfolding command_of same_bytes
names_factor = refl

-- "rise"
names_rise : command_of (114 ∷ 105 ∷ 115 ∷ 101 ∷ []) ≡ Some Rise
unfolding command_of same_bytes
names_rise = refl

-- "explain"
names_explain : command_of (101 ∷ 120 ∷ 112 ∷ 108 ∷ 97 ∷ 105 ∷ 110 ∷ []) ≡ Some Explain
unfolding command_of same_bytes
names_explain = refl

-- "help"
names_help : command_of (104 ∷ 101 ∷ 108 ∷ 112 ∷ []) ≡ Some Help
unfolding command_of same_bytes
names_help = refl

-- "--help"
names_help_option : command_of (45 ∷ 45 ∷ 104 ∷ 101 ∷ 108 ∷ 112 ∷ []) ≡ Some Help
unfolding command_of same_bytes
names_help_option = refl

-- "-h"
names_h : command_of (45 ∷ 104 ∷ []) ≡ Some Help
unfolding command_of same_bytes
names_h = refl

-- "version"
names_version : command_of (118 ∷ 101 ∷ 114 ∷ 115 ∷ 105 ∷ 111 ∷ 110 ∷ []) ≡ Some Version
unfolding command_of same_bytes
names_version = refl

-- "--version"
names_version_option : command_of (45 ∷ 45 ∷ 118 ∷ 101 ∷ 114 ∷ 115 ∷ 105 ∷ 111 ∷ 110 ∷ []) ≡ Some Version
unfolding command_of same_bytes
names_version_option = refl

-- "Share" and "shares"
names_none : command_of (83 ∷ 104 ∷ 97 ∷ 114 ∷ 101 ∷ []) ≡ None
unfolding command_of same_bytes
names_none = refl

names_more : command_of (115 ∷ 104 ∷ 97 ∷ 114 ∷ 101 ∷ 115 ∷ []) ≡ None
unfolding command_of same_bytes
names_more = refl

-- "--" and "-v", which other programs have
names_dashes : command_of (45 ∷ 45 ∷ []) ≡ None
unfolding command_of same_bytes
names_dashes = refl

names_v : command_of (45 ∷ 118 ∷ []) ≡ None
unfolding command_of same_bytes
names_v = refl

-- nothing
names_nothing : command_of [] ≡ None
unfolding command_of same_bytes
names_nothing = refl
