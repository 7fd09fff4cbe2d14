-- The verb of words that are left to clap, by what was found of it.
use Rattle.std.proofs.Common.{◌≡◌, ◌≤◌, ◌<◌, refl, ◌∙◌, sym, ap, arith, true, false, List, [], ◌∷◌, Option, Some, None}
use Rattle.std.proofs.Common.{drop, get_or, if◌then◌else◌, length, String, string_bytes}
use Rattle.std.specs.declared.alloc.Global.{Global}
use Rattle.std.specs.Prelude.{option_and_then}
use Rattle.std.specs.Option.{option_map_or}
use Rattle.ol_words.specs.Texts.{Text, texts_of}
use Rattle.ol_words.specs.Asked.{verb_named}
use Rattle.ol_words.specs.Command.{ids_of}
use Rattle.ol_words.specs.Lines.{Line, line_of}
use Rattle.ol_words.specs.Once.{agreed_verb, is_agreed, is_told_once, known_of, options_of}
use Rattle.ol_words.specs.declared.verbs.Verb.{Verb}

pub few_words : (words : List (String Global)) → length words < 2 → None ≡ agreed_verb (texts_of words)
few_words [] few = refl
few_words (a ∷ []) few = refl
few_words (a ∷ b ∷ words) few = absurd (omega arith)

-- the program's name, the verb's word and the rest
pub parts : (words : List (String Global)) (word : String Global) → 2 ≤ length words → word ≡ get_or words 1 word
    → (program : Text) × (texts_of words ≡ program ∷ string_bytes word ∷ texts_of (drop 2 words))
parts [] word two is = absurd (omega arith)
parts (a ∷ []) word two is = absurd (omega arith)
parts (a ∷ b ∷ words) word two is = (
  string_bytes a,
  ap (λ (w : String Global). string_bytes a ∷ string_bytes w ∷ texts_of words) (sym is),
)

module _ (program word : Text) (rest : List Text) where
  pub no_verb : None ≡ verb_named word → None ≡ agreed_verb (program ∷ word ∷ rest)
  no_verb e = ap (λ (r : Option Verb). option_and_then (λ v. if is_agreed v rest then Some v else None) r) e

  module _ (v : Verb) (named : Some v ≡ verb_named word) where
    by_line : (line : Option Line) → line ≡ line_of (known_of v) rest
        → (if option_map_or (is_told_once (options_of v)
        (length (ids_of v))) line false then Some v else None) ≡ agreed_verb (program ∷ word ∷ rest)
    by_line line is = ap (λ (l : Option Line).
        if option_map_or (is_told_once (options_of v) (length (ids_of v))) l false then Some v else None) is
        ∙ ap (λ (r : Option Verb). option_and_then (λ v. if is_agreed v rest then Some v else None) r) named

    pub no_line : None ≡ line_of (known_of v) rest → None ≡ agreed_verb (program ∷ word ∷ rest)
    no_line is = by_line None is

    module _ (line : Line) (is : Some line ≡ line_of (known_of v) rest) where
      pub not_once : false ≡ is_told_once (options_of v) (length (ids_of v)) line →
          None ≡ agreed_verb (program ∷ word ∷ rest)
      not_once e = ap (λ b. if b then Some v else None) e ∙ by_line (Some line) is

      pub once : true ≡ is_told_once (options_of v) (length (ids_of v)) line →
          Some v ≡ agreed_verb (program ∷ word ∷ rest)
      once e = ap (λ b. if b then Some v else None) e ∙ by_line (Some line) is
