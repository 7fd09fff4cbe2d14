-- What `equal` and `certify` tell of the terms of their files.
use Rattle.std.specs.Prelude.{◌≡◌, ◌↔◌, ℕ, true, List, Option, Some, String}
use Rattle.std.specs.declared.alloc.Global.{Global}
use Rattle.ol_io.specs.Outside.{Appended}
use Rattle.ol_term.specs.declared.translations.Translation.{Translation}
use Rattle.ol_term.specs.Trees.{Tree}
use Rattle.ol_parse.specs.Parsed.{IsFileOf}
use Rattle.ol_beta.specs.Verdicts.{IsVerdict}
use Rattle.ol_beta.specs.declared.certifying.Verdict.{Verdict}
use Rattle.ol_beta.specs.declared.certifying.Verdict.TheVariants.{Differs}
use Rattle.ol_equal.specs.declared.answers.Compared.{Compared}
use Rattle.ol_equal.specs.Comparing.{TreeWithNames, place_at, IsFirstApart, IsComparison}
use Rattle.ol_equal.specs.Texts.{compared_text}
use Rattle.ol_law_confluence.specs.Reductions.{Convertible}
use Rattle.ol_law_confluence.specs.Compared.{by_bytes, TellsTerms, IsHeadBesideLost}
use Rattle.ol_words.specs.declared.jobs.Job.{Job}
use Rattle.ol_words.specs.declared.jobs.Job.TheVariants as jobs
use Rattle.ol_cli.specs.Texts.{line}
use Rattle.ol_cli.specs.Jobs.{AskFor, Files}
use Rattle.ol_readback.specs.declared.answers.ReadNode.{ReadNode}
use Rattle.ol_cli.specs.Certify.{Certifies, IsVerdictText, verdict_text}
use Rattle.ol_cli.specs.Run.{ReadsLast}
use Rattle.ol_cli.specs.Equal.{HasTree}

-- What the line of `equal` tells of the terms of its two files: `equal`, that they have one normal
-- form, and `different at`, that they aren't convertible; a free name of the one is one of the other
-- where the bytes are the same. What is compared are the two trees that `run` prints. Where `cut at`
-- stands beside a head of the one and a `?` of the other, the terms aren't convertible either.
pub record TellsOfTwo (translation : Translation) (fuel heads : ℕ) (bytes bytes' : List ℕ)
    (names : TreeWithNames) (t u : Tree) (old new : Option (List ℕ)) : Type 0 where
  pub first : HasTree translation bytes fuel heads
  pub second : HasTree translation bytes' fuel heads
  pub compared : Compared
  pub comparison : IsComparison names first.tree second.tree compared
  pub tells : TellsTerms names t u compared
  pub beside_lost : (k : ℕ) (path : List ℕ) → IsFirstApart names first.tree second.tree k path →
      IsHeadBesideLost true true (place_at first.tree k) (place_at second.tree k) →
      Convertible (by_bytes names.a t) (by_bytes names.b u) → ⊥
  pub written : Appended old (line (compared_text compared)) new

-- What was written tells of the terms of the files: the line of `equal` of its two; and `certify`
-- writes the verdict of leftmost reduction of its term on what `run` prints, never `differs`.
abbrev pub TellsSources : Job → Files → Option (List ℕ) → Option (List ℕ) → Type 0
TellsSources (jobs.Equal translation workers fuel heads a b) files old new =
    (bytes bytes' : List ℕ) → files 0 a ≡ Some bytes → files 1 b ≡ Some bytes' →
    (t u : Tree) (names others : List (List ℕ)) → IsFileOf bytes t names → IsFileOf bytes' u others →
    TellsOfTwo translation fuel heads bytes bytes' (record { a = names; b = others }) t u old new
TellsSources (jobs.Certify translation steps workers fuel heads name) files old new =
    (bytes : List ℕ) → files 0 name ≡ Some bytes → (t : Tree) (names : List (List ℕ)) →
    IsFileOf bytes t names → (text : List ℕ) × Certifies translation t names steps fuel heads text
    × Appended old text new
TellsSources _ files old new = Unit {0}

-- the same of the words
abbrev pub WritesOfSources : List (String Global) → Files → Option (List ℕ) → Option (List ℕ) → Type 0
WritesOfSources words files old new = (job : Job) → AskFor words job → TellsSources job files old new

-- ---- laws

-- `equal` says that the two terms have one normal form, and `different at` that they aren't
-- convertible, where free names are the same if their bytes are.
abbrev pub ComparisonTellsSources : Type 0
ComparisonTellsSources = (translation : Translation) (bytes bytes' : List ℕ) (fuel heads : ℕ)
    (x : HasTree translation bytes fuel heads) (y : HasTree translation bytes' fuel heads)
    (c : Compared) → IsComparison (record { a = x.names; b = y.names }) x.tree y.tree c →
    TellsTerms (record { a = x.names; b = y.names }) x.term y.term c

-- nor are the terms convertible where the first place apart has a head in the one tree and, where
-- `run` prints `?`, none in the other
abbrev pub HeadBesideLostTellsSources : Type 0
HeadBesideLostTellsSources = (translation : Translation) (bytes bytes' : List ℕ) (fuel heads : ℕ)
    (x : HasTree translation bytes fuel heads) (y : HasTree translation bytes' fuel heads)
    (k : ℕ) (path : List ℕ) → IsFirstApart (record { a = x.names; b = y.names }) x.tree y.tree k path →
    IsHeadBesideLost true true (place_at x.tree k) (place_at y.tree k) →
    Convertible (by_bytes x.names x.term) (by_bytes y.names y.term) → ⊥

-- `certify` never finds that leftmost reduction of a file's term ends in another term than its tree's
abbrev pub CertifyNeverDiffers : Type 0
CertifyNeverDiffers = (translation : Translation) (bytes : List ℕ) (t : Tree) (names : List (List ℕ)) →
    IsFileOf bytes t names → (steps fuel heads : ℕ) (tree : List ReadNode) →
    ReadsLast translation t names fuel heads tree → (road : List (List ℕ)) →
    IsVerdict t tree steps (Differs road) → ⊥

-- and a text is one that it writes exactly if it is the text of the verdict
abbrev pub CertifyTellsVerdict : Type 0
CertifyTellsVerdict = (translation : Translation) (bytes : List ℕ) (t : Tree) (names : List (List ℕ)) →
    IsFileOf bytes t names → (steps fuel heads : ℕ) (tree : List ReadNode) →
    ReadsLast translation t names fuel heads tree → (text : List ℕ) →
    IsVerdictText t tree steps text
    ↔ ((verdict : Verdict) × IsVerdict t tree steps verdict × (text ≡ verdict_text steps verdict))
