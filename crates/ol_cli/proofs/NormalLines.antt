-- The first line that is written, in the words of terms.
use Rattle.std.proofs.Common.{ℕ, List, [], ◌∷◌, Bool, true, false, Option, String}
use Rattle.std.proofs.Common.{Global, refl, ◌∙◌, subst, append_assoc}
use Rattle.ol_io.specs.Outside.{Appended}
use Rattle.ol_term.specs.declared.translations.Translation.{Translation}
use Rattle.ol_parse.specs.Grammar.{Named}
use Rattle.ol_parse.specs.Texts.{IsText}
use Rattle.ol_parse.specs.Numbered.{names_of, number}
use Rattle.ol_parse.specs.Parsed.{IsFileOf}
use Rattle.ol_rules.specs.Counting.{counts_of}
use Rattle.ol_words.specs.declared.jobs.Job.{Job}
use Rattle.ol_words.specs.declared.jobs.Job.TheVariants as jobs
use Rattle.ol_law_confluence.proofs.Read.{IsPrinted, one_line, line_is_normal_form, lost_has_no_normal_form}
use Rattle.ol_cli.specs.Texts.{counts_text}
use Rattle.ol_cli.specs.Sources.{PrintsTree, WalksTree, DemandsTree, TellsTree, WritesTree}
use Rattle.ol_cli.specs.NormalForms.{PrintsTerm, FirstLine, LineSays, IsItsNormalForm, TellsOfNone}

unfoldable pub run_printed : {tr : Translation} {source : Named} {fuel heads : ℕ} {text : List ℕ} →
    PrintsTree tr (number source) (names_of source) fuel heads text → IsPrinted source true text
run_printed p = record {
  tree = p.prints.shows.tree;
  line = p.prints.shows.term;
  rest = counts_text (counts_of p.prints.ends.journal) p.prints.shows.stuck;
  shown = p.prints.shows.shown;
  written =
      p.prints.shows.written
      ∙ append_assoc p.prints.shows.term (10 ∷ [])
      (counts_text (counts_of p.prints.ends.journal) p.prints.shows.stuck);
  says = p.says;
  always = p.always;
  read = p.read_again;
}

pub walk_printed : {tr : Translation} {source : Named} {edges heads : ℕ} {text : List ℕ} →
    WalksTree tr (number source) (names_of source) edges heads text → IsPrinted source false text
walk_printed w = record {
  tree = w.walks.tree;
  line = w.walks.term;
  rest = [];
  shown = w.walks.shown;
  written = w.walks.written;
  says = w.says;
  always = w.always;
  read = w.read_again;
}

unfoldable pub demand_printed : {tr : Translation} {source : Named} {fuel heads : ℕ} {text : List ℕ}
    →
    DemandsTree tr (number source) (names_of source) fuel heads text → IsPrinted source true text
demand_printed d = record {
  tree = d.demands.ends.tree;
  line = d.demands.term;
  rest = counts_text (counts_of d.demands.ends.journal) d.demands.stuck;
  shown = d.demands.shown;
  written =
      d.demands.written
      ∙ append_assoc d.demands.term (10 ∷ [])
      (counts_text (counts_of d.demands.ends.journal) d.demands.stuck);
  says = d.says;
  always = d.always;
  read = d.read_again;
}

module _ {source : Named} {b : Bool} {text bytes : List ℕ} (is : IsText bytes source)
    (p : IsPrinted source b text) where
  pub first_line : (Says : List ℕ → Type 0) (old new : Option (List ℕ)) → Appended old text new →
      Says p.line → FirstLine Says old new
  first_line Says old new a says = record {
    line = p.line;
    rest = p.rest;
    one = one_line is p;
    written = subst (λ t. Appended old t new) p.written a;
    says = says;
  }

  normal_line : (job : Job) (old new : Option (List ℕ)) → Appended old text new →
      FirstLine (IsItsNormalForm job source) old new
  normal_line job old new a =
      first_line (IsItsNormalForm job source) old new a (line_is_normal_form is p)

pub file_of : {bytes : List ℕ} {source : Named} → IsText bytes source →
    IsFileOf bytes (number source) (names_of source)
file_of {source = source} is = record {
  named = source;
  text = is;
  tree = refl;
  free_names = refl;
}

module _ {bytes : List ℕ} {source : Named} (is : IsText bytes source) (old new : Option (List ℕ))
    (text : List ℕ) (a : Appended old text new) where
  normal_of : (job : Job) → PrintsTerm job →
      TellsTree job (number source) (names_of source) text →
      FirstLine (IsItsNormalForm job source) old new
  normal_of (jobs.Run tr w f q name) k h = normal_line is (run_printed h) (jobs.Run tr w f q name) old new a
  normal_of (jobs.Walk tr e q name) k h = normal_line is (walk_printed h) (jobs.Walk tr e q name) old new a
  normal_of (jobs.Gen tr true n) k h = normal_line is (run_printed h) (jobs.Gen tr true n) old new a
  normal_of (jobs.Demand tr f q name) k h =
      normal_line is (demand_printed h) (jobs.Demand tr f q name) old new a
  normal_of _ k h = absurd k

  lost_of : (job : Job) → PrintsTerm job →
      TellsTree job (number source) (names_of source) text →
      FirstLine (TellsOfNone job source) old new
  lost_of (jobs.Run tr w f q name) k h =
      let p = run_printed h in
      first_line is p (TellsOfNone (jobs.Run tr w f q name) source) old new a
      (lost_has_no_normal_form is p)
  lost_of (jobs.Walk tr e q name) k h =
      first_line is (walk_printed h) (TellsOfNone (jobs.Walk tr e q name) source) old new a tt
  lost_of (jobs.Gen tr true n) k h =
      let p = run_printed h in
      first_line is p (TellsOfNone (jobs.Gen tr true n) source) old new a (lost_has_no_normal_form is p)
  lost_of (jobs.Demand tr f q name) k h =
      let p = demand_printed h in
      first_line is p (TellsOfNone (jobs.Demand tr f q name) source) old new a
      (lost_has_no_normal_form is p)
  lost_of _ k h = absurd k

pub writes_normal_form : (words : List (String Global)) (bytes : List ℕ)
    (old new : Option (List ℕ)) → WritesTree words bytes old new →
    LineSays IsItsNormalForm words bytes old new
writes_normal_form words bytes old new w job j k source is =
    let r = w job (number source) (names_of source) j (file_of is) in
    normal_of is old new r.0 r.2 job k r.1

pub writes_no_normal_form : (words : List (String Global)) (bytes : List ℕ)
    (old new : Option (List ℕ)) → WritesTree words bytes old new →
    LineSays TellsOfNone words bytes old new
writes_no_normal_form words bytes old new w job j k source is =
    let r = w job (number source) (names_of source) j (file_of is) in
    lost_of is old new r.0 r.2 job k r.1
