-- A word that is one of the names, and one that is none of them.
use Rattle.std.proofs.Common.{◌≡◌, ℕ, Bool, true, false, refl, ap, sym, subst, List}
use Rattle.std.specs.Prelude.{None, IsUtf8, encode_utf8_all, codes}
use lib.Utf8.{scalars, encode}
use Rattle.text.specs.Reading.{same_bytes}
use Rattle.text.proofs.Equality.{same_to}
use Rattle.lines.specs.Lines.{rise_word}
use Rattle.commands.specs.Names.{command_of, share_word, factor_word, current_word, explain_word}

differs : (word name : List ℕ) → (word ≡ name → ⊥) → same_bytes word name ≡ false
differs word name other = by_test (same_bytes word name) refl
  where
    by_test : (b : Bool) → same_bytes word name ≡ b → b ≡ false
    by_test true e = absurd (other (same_to word name e))
    by_test false e = refl

pub by_name : (word name : List ℕ) → word ≡ name → command_of name ≡ command_of word
by_name word name e = ap command_of (sym e)

pub by_none :
    (word : List ℕ)
    → (word ≡ share_word → ⊥) → (word ≡ factor_word → ⊥) → (word ≡ current_word → ⊥) → (word ≡ rise_word → ⊥) → (word ≡ explain_word → ⊥)
    → (word ≡ codes "help" → ⊥) → (word ≡ codes "--help" → ⊥) → (word ≡ codes "-h" → ⊥)
    → (word ≡ codes "version" → ⊥) → (word ≡ codes "--version" → ⊥)
    → None ≡ command_of word
unfolding command_of
by_none word n1 n2 n3 n4 n5 n6 n7 n8 n9 n10 =
    rw (differs word _ n1, differs word _ n2, differs word _ n3, differs word _ n4, differs word _ n5, differs word _ n6, differs word _ n7, differs word _ n8, differs word _ n9, differs word _ n10) refl

-- every name is in ASCII, whose codes are their own encoding
pub no_text : (word : List ℕ) → (IsUtf8 word → ⊥) → None ≡ command_of word
unfolding encode
no_text word broken =
    by_none word (no refl refl) (no refl refl) (no refl refl) (no refl refl) (no refl refl) (no refl refl) (no refl refl) (no refl refl) (no refl refl) (no refl refl)
  where
    no : {name : List ℕ} → scalars name ≡ true → encode_utf8_all name ≡ name → word ≡ name → ⊥
    no {name} scalar own e = broken (subst IsUtf8 (sym e) (name, (scalar, own)))
