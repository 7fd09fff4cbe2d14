-- Words without options, and the line that is written for them.
use Rattle.std.proofs.Common.{◌≡◌, ℕ, List, [], ◌∷◌, Bool, true, false, ◌&&◌, inl, inr, codes, Option, Some, None}
use Rattle.std.proofs.Common.{String, Global, ◌⊎◌, refl, ap, ◌∙◌, subst, cond, zero, suc}
use Rattle.std.proofs.lemmas.Bool.{cases_Bool}
use Rattle.std.proofs.lemmas.Slice.Eq.{bytes_eq-Decides}
use Rattle.std.specs.Prelude.{option_and_then, option_map}
use Rattle.ol_term.specs.declared.translations.Translation.TheVariants.{Two}
use Rattle.ol_parse.specs.Numbered.{names_of, number}
use Rattle.ol_words.specs.Texts.{Text}
use Rattle.ol_words.specs.Lines.{Line, Known, line_from, line_of, is_dashed, is_end, after_option, option_of, with_name}
use Rattle.ol_words.specs.declared.jobs.Job.{Job}
use Rattle.ol_words.specs.declared.jobs.Job.TheVariants as jobs
use Rattle.ol_words.specs.declared.verbs.Verb.TheVariants as verbs
use Rattle.ol_words.specs.Asked.{is_input}
use Rattle.ol_words.specs.Jobs.{job_of, job_on}
use Rattle.ol_law_confluence.proofs.Read.{line_is_normal_form, lost_has_no_normal_form}
use Rattle.ol_cli.specs.NormalForms.{PlainDemandSays, FirstLine, IsFoundWithin, ArePlain, LineIsOf, PlainLineSays}
use Rattle.ol_cli.specs.NormalForms.{ArePlainTwo, PlainEqualSays, LineSaysOfTwo, CountsSay, AreFewest}
use Rattle.ol_cli.specs.Jobs.{AskFor, AreTold, TellsFiles, TellsTerm, term_bytes, Files}
use Rattle.ol_cli.specs.Sources.{WritesTree}
use Rattle.ol_cli.proofs.CountedLines.{writes_fewest}
use Rattle.ol_cli.proofs.OneAnswer.{one_job}
use Rattle.ol_cli.proofs.NormalLines.{run_printed, walk_printed, demand_printed, first_line, file_of}
use Rattle.ol_cli.proofs.DemandedLines.{writes_demanded}
use Rattle.ol_words.proofs.Shapes.{not_end}

-- ---- one name

abbrev named : Text → List Text → Option Line
named name names = Some (record { options = []; names = name ∷ names })

abbrev unnamed : List Text → Option Line
unnamed rest = Some (record { options = []; names = rest })

abbrev other : Known → Text → List Text → Option Line
other known name rest =
    after_option (option_of known name) (λ option. line_from known (Some option) rest)
    (line_of known rest)

-- a name stands before what the rest says
name_first : (known : Known) (name : Text) (rest : List Text) → is_dashed name ≡ false →
    line_of known (name ∷ rest) ≡ option_map (with_name name) (line_of known rest)
unfolding line_from
name_first known name rest h = go (is_end name) (is_dashed name) (not_end name h) h
  where
    go : (a b : Bool) → a ≡ false → b ≡ false →
        cond a (unnamed rest) (cond b (other known name rest)
        (option_map (with_name name) (line_of known rest)))
        ≡ option_map (with_name name) (line_of known rest)
    go true b e f = absurd (cc)
    go false true e f = absurd (cc)
    go false false e f = refl

one_name : (known : Known) (name : Text) → is_dashed name ≡ false →
    line_of known (name ∷ []) ≡ named name []
unfolding line_from
one_name known name h = name_first known name [] h

two_names : (known : Known) (a b : Text) → is_dashed a ≡ false → is_dashed b ≡ false →
    line_of known (a ∷ b ∷ []) ≡ named a (b ∷ [])
two_names known a b h k =
    name_first known a (b ∷ []) h ∙ ap (option_map (with_name a)) (one_name known b k)

module _ {words : List (String Global)} {verb name : Text} (p : ArePlain words verb name) where
  asks_run : verb ≡ codes "run" → AskFor words (jobs.Run Two 4 200000 4096 name)
  asks_run e =
      ap job_of p.are ∙ ap (λ v. job_of (p.program ∷ v ∷ name ∷ [])) e
      ∙ ap (option_and_then (job_on verbs.Run)) (one_name _ name p.is_name)

  asks_walk : verb ≡ codes "walk" → AskFor words (jobs.Walk Two 100000 4096 name)
  asks_walk e =
      ap job_of p.are ∙ ap (λ v. job_of (p.program ∷ v ∷ name ∷ [])) e
      ∙ ap (option_and_then (job_on verbs.Walk)) (one_name _ name p.is_name)

  asks_demand : verb ≡ codes "demand" → AskFor words (jobs.Demand Two 200000 4096 name)
  asks_demand e =
      ap job_of p.are ∙ ap (λ v. job_of (p.program ∷ v ∷ name ∷ [])) e
      ∙ ap (option_and_then (job_on verbs.Demand)) (one_name _ name p.is_name)

-- two names that aren't both `-` ask for a comparison
both_inputs : (a b : Text) → (a ≡ codes "-" → b ≡ codes "-" → ⊥) →
    is_input a && is_input b ≡ false
both_inputs a b apart = elim (cases_Bool (is_input a)) [
  | inr other ↦ ap (λ x. x && is_input b) other
  | inl first ↦ elim (cases_Bool (is_input b)) [
    | inr other ↦ ap (λ x. x && is_input b) first ∙ other
    | inl second ↦ absurd
        (apart ((bytes_eq-Decides a (codes "-")).0 first)
        ((bytes_eq-Decides b (codes "-")).0 second))
  ]
]

asks_equal : {words : List (String Global)} {a b : Text} → ArePlainTwo words a b →
    AskFor words (jobs.Equal Two 4 200000 4096 a b)
asks_equal {words} {a} {b} p =
    ap job_of p.are ∙ ap (option_and_then (job_on verbs.Equal)) (two_names _ a b p.is_first p.is_second)
    ∙ ap (λ x. cond x None (Some (jobs.Equal Two 4 200000 4096 a b))) (both_inputs a b p.not_both)

-- the bytes of the file are those of the job's term
pub tells_of : (words : List (String Global)) (contents : Text → Option (List ℕ)) (job : Job)
    (bytes : List ℕ) →
    AskFor words job → term_bytes contents job ≡ Some bytes → TellsTerm contents words bytes
tells_of words contents job bytes j e other k =
    subst (λ a. term_bytes contents a ≡ Some bytes) (one_job words job other j k) e

-- ---- the line

not_walk : (verb : Text) → verb ≡ codes "walk" → {P : Type 0} → (verb ≡ codes "walk" → ⊥) → P
not_walk verb e differ = absurd (differ e)

abbrev pub Writes : List (String Global) → Files → Option (List ℕ) → Option (List ℕ) → Type 0
Writes words files old new =
    (bytes : List ℕ) → TellsTerm (files 0) words bytes → WritesTree words bytes old new

pub plain_writes : (words : List (String Global)) (files : Files)
    (old new : Option (List ℕ)) →
    Writes words files old new → PlainLineSays words files old new
plain_writes words files old new w verb name p (inl e) bytes has source is =
    let j = asks_run p e in
    let r =
    w bytes (tells_of words (files 0) (jobs.Run Two 4 200000 4096 name) bytes j has)
    (jobs.Run Two 4 200000 4096 name) (number source) (names_of source) j (file_of is) in
    let q = run_printed r.1 in
    first_line is q (LineIsOf verb source) old new r.2
    (line_is_normal_form is q, λ differ. lost_has_no_normal_form is q)
plain_writes words files old new w verb name p (inr (inl e)) bytes has source is =
    let j = asks_demand p e in
    let r =
    w bytes (tells_of words (files 0) (jobs.Demand Two 200000 4096 name) bytes j has)
    (jobs.Demand Two 200000 4096 name) (number source) (names_of source) j (file_of is) in
    let q = demand_printed r.1 in
    first_line is q (LineIsOf verb source) old new r.2
    (line_is_normal_form is q, λ differ. lost_has_no_normal_form is q)
plain_writes words files old new w verb name p (inr (inr e)) bytes has source is =
    let j = asks_walk p e in
    let r =
    w bytes (tells_of words (files 0) (jobs.Walk Two 100000 4096 name) bytes j has)
    (jobs.Walk Two 100000 4096 name) (number source) (names_of source) j (file_of is) in
    let q = walk_printed r.1 in
    first_line is q (LineIsOf verb source) old new r.2
    (line_is_normal_form is q, λ differ. not_walk verb e differ)

-- what is said of `demand` with any options, without options
pub plain_demand : (words : List (String Global)) (files : Files) (old new : Option (List ℕ)) →
    Writes words files old new →
    PlainDemandSays (λ source. FirstLine (IsFoundWithin 4096 source)) words files old new
plain_demand words files old new w name p bytes has source is =
    let j = asks_demand p refl in
    let told = tells_of words (files 0) (jobs.Demand Two 200000 4096 name) bytes j has in
    writes_demanded words bytes old new (w bytes told) (jobs.Demand Two 200000 4096 name) j tt source is

pub plain_fewest : (words : List (String Global)) (files : Files) (old new : Option (List ℕ)) →
    Writes words files old new → PlainDemandSays (λ source. CountsSay (AreFewest source)) words files old new
plain_fewest words files old new w name p bytes has source is =
    let j = asks_demand p refl in
    let told = tells_of words (files 0) (jobs.Demand Two 200000 4096 name) bytes j has in
    writes_fewest words bytes old new (w bytes told) Two 200000 4096 name j source is

-- the bytes of two files are those of the job's files
two_told : (files : Files) (a b : Text) (m n : List ℕ) → files 0 a ≡ Some m → files 1 b ≡ Some n →
    AreTold files (jobs.Equal Two 4 200000 4096 a b)
two_told files a b m n e f zero name i = (m, let same : a ≡ name = cc in subst (λ name. files 0 name ≡ Some m) same e)
two_told files a b m n e f (suc zero) name i = (
  n,
  let same : b ≡ name = cc in
      subst (λ name. files 1 name ≡ Some n) same f,
)
two_told files a b m n e f (suc (suc place)) name i = absurd (cc)

-- what is said of `equal` with any options, without options
pub plain_equal : (words : List (String Global)) (files : Files) (old new : Option (List ℕ)) →
    (TellsFiles files words → LineSaysOfTwo words files old new) → PlainEqualSays words files old new
plain_equal words files old new w a b p m n e f =
    let ask = asks_equal p in
    w (λ job j.
    subst (λ a. AreTold files a) (one_job words (jobs.Equal Two 4 200000 4096 a b) job ask j)
    (two_told files a b m n e f)) Two 4 200000 4096 a b ask m n e f
