-- The law of the translations.
use Rattle.std.specs.Prelude.{ℕ}
use Rattle.ol_term.specs.declared.translations.Translation.{Translation}
use Rattle.ol_term.specs.Trees.{Tree}
use Rattle.ol_net.specs.Nets.{IsNet}
use Rattle.ol_translate.specs.Translation.{translation_of}
use Rattle.ol_translate.specs.Names.{HasNames}

-- Each translation of a term is a net: a name has one node, and each port stands in one link.
abbrev pub TranslationIsNet : Type 0
TranslationIsNet = (w : Translation) (t : Tree) (names : ℕ) → HasNames t names → IsNet (translation_of w t names)
