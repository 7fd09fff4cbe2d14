-- All that follows from how a call ended.
use Rattle.std.proofs.Common.{◌≡◌, ◌≢◌, ◌∙◌, ◌<◌, ◌⊎◌, inl, inr, sym, refl, subst, arith, ℕ, zero, suc, List, [], ◌∷◌, ◌++◌}
use Rattle.std.proofs.Common.{Option, Some, String, Global, append-nil, Bool, true, codes}
use Rattle.ol_io.specs.Outside.{Appended, Rose}
use Rattle.ol_io.specs.Readings.{AreOfSince, Reading, handed, reading}
use Rattle.ol_io.proofs.Readings.{handed-over, handed-told}
use Rattle.ol_law_confluence.specs.NormalForms.{BeginsReduced}
use Rattle.ol_law_meaning.specs.Shows.{ready}
use Rattle.ol_parse.specs.Grammar.{Named}
use Rattle.ol_parse.specs.Texts.{IsText}
use Rattle.ol_cli.specs.declared.status.Status.{Status}
use Rattle.ol_cli.specs.declared.status.Status.TheVariants as status
use Rattle.ol_cli.specs.declared.status.Status.TheVariants.{Done, NoMemory}
use Rattle.ol_cli.specs.Answers.{Ends, HasCause, IsAnswer, Seen}
use Rattle.ol_cli.specs.Cases.{Cause, seen}
use Rattle.ol_cli.specs.Follows.{EndsSay, FirstEndsSay, Follows, HandedFollows, NoneRose}
use Rattle.ol_cli.specs.Jobs.{Files, TellsFiles, TellsTerm}
use Rattle.ol_cli.specs.NormalForms.{ArePlain, PlainLineSays}
use Rattle.ol_cli.specs.Says.{SaysOfAnswer, SaysWhenDone}
use Rattle.ol_cli.specs.SourceLaws.{WritesOfSources}
use Rattle.ol_cli.specs.Sources.{WritesTree}
use Rattle.ol_cli.proofs.Causing.{cause_cases}
use Rattle.ol_cli.proofs.ComparedLines.{writes_of_two}
use Rattle.ol_cli.proofs.Complete.{done_or_nothing}
use Rattle.ol_cli.proofs.CountedLines.{writes_fewest, writes_fewest_for_heads, writes_no_stuck}
use Rattle.ol_cli.proofs.DemandedLines.{writes_demanded}
use Rattle.ol_cli.proofs.Exact.{ends_asked, ends_done, ends_exact, ends_fault, ends_risen, ends_usage, ends_write}
use Rattle.ol_cli.proofs.Exact.{ends_write_told}
use Rattle.ol_cli.proofs.NormalLines.{writes_no_normal_form, writes_normal_form}
use Rattle.ol_cli.proofs.PlainLines.{plain_demand, plain_equal, plain_fewest, plain_writes}
use Rattle.ol_cli.proofs.SourceTrees.{writes_of_sources}
use Rattle.ol_cli.proofs.Sourced.{ends_run}
use Rattle.ol_cli.proofs.Termination.{answer_ends}
use Rattle.ol_cli.proofs.TextsRead.{writes_tree}

by_cases : (words : List (String Global)) (s : Seen) (st : Status) (g g' : ℕ) (old new : Option (List ℕ)) →
    Ends (HasCause words s) st g g' old new → Ends (Cause words s) st g g' old new
by_cases words s NoMemory g g' old new e = e
by_cases words s _ g g' old new e = (e.0, e.1, cause_cases words s e.0 e.1 e.2, e.3, e.4)

-- ---- any call

module _ (words : List (String Global)) (f f' given : ℕ) (ended : Bool) (files : Files) (st : Status) (g g' : ℕ)
    (old new : Option (List ℕ)) (h : Ends (HasCause words (seen f f' files given ended)) st g g' old new) where
  ends : Ends (Cause words (seen f f' files given ended)) st g g' old new
  ends = by_cases words (seen f f' files given ended) st g g' old new h

  exact : NoneRose (seen f f' files given ended) g g' (st ≢ NoMemory → TellsFiles files words →
      (text : List ℕ) × IsAnswer words files st text × Appended old text new)
  exact quiet calm has tells = ends_exact words f f' given files ended quiet tells st g g' old new calm has ends

  answer_says : NoneRose (seen f f' files given ended) g g' (SaysOfAnswer words files st old new)
  answer_says quiet calm = record {
    exact = exact quiet calm;
    completeness = λ can. done_or_nothing words f f' given files ended quiet can st g g' old new calm ends;
    termination = λ has. answer_ends words files st old new (exact quiet calm has);
    every_run = λ has bytes tells. ends_run words f f' given files ended quiet bytes tells st g g' old new calm has ends;
  }

  module _ (quiet : Rose f f' → ⊥) (calm : Rose g g' → ⊥) (is : st ≡ Done) where
    tree : (bytes : List ℕ) → TellsTerm (files 0) words bytes → WritesTree words bytes old new
    tree = writes_tree words files f f' given ended g g' old new
        (subst (λ st. Ends (HasCause words (seen f f' files given ended)) st g g' old new) is h) quiet

    sources : TellsFiles files words → WritesOfSources words files old new
    sources tells = writes_of_sources words files old new st is
        (exact quiet calm (λ x. (let k : Done ≡ NoMemory = sym is ∙ x in absurd (cc))) tells)

    done_says : SaysWhenDone words files old new
    done_says = record {
      plain = plain_writes words files old new tree;
      plain_demand = plain_demand words files old new tree;
      plain_fewest = plain_fewest words files old new tree;
      plain_equal = plain_equal words files old new (λ tells. writes_of_two words files old new (sources tells));
      normal_form = λ bytes tells. writes_normal_form words bytes old new (tree bytes tells);
      no_normal_form = λ bytes tells. writes_no_normal_form words bytes old new (tree bytes tells);
      demanded = λ bytes tells. writes_demanded words bytes old new (tree bytes tells);
      fewest = λ bytes tells. writes_fewest words bytes old new (tree bytes tells);
      fewest_heads = λ bytes tells. writes_fewest_for_heads words bytes old new (tree bytes tells);
      no_stuck = λ bytes tells. writes_no_stuck words bytes old new (tree bytes tells);
      two_terms = λ tells. writes_of_two words files old new (sources tells);
      tree = tree;
      sources = sources;
    }

  all_follows : Follows words (seen f f' files given ended) st g g' old new
  all_follows =
      let s = seen f f' files given ended in
      record {
        done_says = done_says;
        answer_says = answer_says;
        read = ends_fault words s st g g' old new ends;
        write = ends_write words s st g g' old new ends;
        write_told = λ risen. ends_write_told words s st g g' old new risen ends;
        read_told = λ risen calm. ends_risen words s st g g' old new risen calm ends;
        usage = ends_asked words s st g g' old new ends;
        usage_told = λ lacks. ends_usage words s st g g' old new lacks ends;
        done = λ some is. ends_done words s st g g' old new ends some is;
      }

pub ends_say : EndsSay
ends_say words s st g g' old new h =
    all_follows words s.faults s.faults' s.given s.ended s.contents st g g' old new h

pub handed_follows : HandedFollows
handed_follows words s before after st g g' old new told h = (
  told.0,
  told.1,
  λ quiet calm has.
      ((ends_say words (record s { contents = handed told.0 }) st g g' old new
      (h (handed told.0) (told.0, told.1, handed-over told.0))).answer_says quiet calm).exact
      has (λ job j place name e. handed-told told.0 place name),
)

-- ---- a first call

no_rise : (before now : ℕ) → before ≡ 0 → now ≡ 0 → Rose before now → ⊥
no_rise before now e f r = let h = rw (e, f) at r.risen in absurd (omega (arith, h))

none_out : (st : Status) (g : ℕ) → st ≡ Done → (0 < g → st ≡ status.WriteFault) → g ≡ 0
none_out st zero done told = refl
none_out st (suc n) done told =
    let k : Done ≡ status.WriteFault = sym done ∙ told (omega arith) in absurd (cc)

none_in : (st : Status) (before now : ℕ) → before ≡ 0 → st ≡ Done →
    (before < now → (st ≡ status.ReadFault) ⊎ (st ≡ NoMemory)) → now ≡ 0
none_in st before zero e done told = refl
none_in st before (suc n) e done told = elim (told (omega (arith, e))) [
  | inl r ↦ (let k : Done ≡ status.ReadFault = sym done ∙ r in absurd (cc))
  | inr m ↦ (let k : Done ≡ NoMemory = sym done ∙ m in absurd (cc))
]

-- where one reading was made, of all bytes of a name, this is what is said of any files of the readings
of_one_reading : (words : List (String Global)) (readings : List Reading) (taken : List ℕ) →
    ((files : Files) → AreOfSince files [] readings → PlainLineSays words files (Some []) (Some taken)) →
    (verb name bytes : List ℕ) → ArePlain words verb name →
    (verb ≡ codes "run") ⊎ ((verb ≡ codes "demand") ⊎ (verb ≡ codes "walk")) →
    readings ≡ reading name bytes true ∷ [] → (source : Named) → IsText bytes source → BeginsReduced source taken
of_one_reading words readings taken plain verb name bytes are is one source text =
    let r = plain (λ n x. Some bytes) (reading name bytes true ∷ [], one, (refl, tt)) verb name are is
    bytes refl source text in (
      r.line,
      r.rest,
      r.one,
      r.written,
      λ result t.
          let n = r.says.0 result t in (n.0, n.1.every_reduct _ ready, n.1.is_normal),
    )

-- the readings since none were made are all readings
all_handed : (words : List (String Global)) (s : Seen) (readings : List Reading) (st : Status) (g : ℕ) (taken : List ℕ)
    (quiet : Rose s.faults s.faults' → ⊥) (calm : Rose 0 g → ⊥) (has : st ≢ NoMemory)
    (x : (rs : List Reading) × (readings ≡ rs ++ []) × NoneRose s 0 g (st ≢ NoMemory →
    (text : List ℕ) × IsAnswer words (handed rs) st text × Appended (Some []) text (Some taken))) →
    (text : List ℕ) × IsAnswer words (handed readings) st text × (taken ≡ text)
all_handed words s readings st g taken quiet calm has (rs, grown, h) =
    let same : rs ≡ readings = sym (append-nil rs) ∙ sym grown in
    subst (λ rs. (text : List ℕ) × IsAnswer words (handed rs) st text × (taken ≡ text)) same (h quiet calm has)

pub first_ends_say : FirstEndsSay
first_ends_say words readings s st g taken none told h =
    let all : (files : Files) → AreOfSince files [] readings →
    Follows words (record s { contents = files }) st 0 g (Some []) (Some taken) =
    λ files of. ends_say words (record s { contents = files }) st 0 g (Some []) (Some taken) (h files of) in
    let own = all s.contents told in
    let calm : st ≡ Done → g ≡ 0 = λ done. none_out st g done own.write_told in
    let quiet : st ≡ Done → s.faults' ≡ 0 =
    λ done. none_in st s.faults s.faults' none done
    (λ risen. own.read_told risen (no_rise 0 g refl (calm done))) in
    let done_says : st ≡ Done → (files : Files) → AreOfSince files [] readings →
    SaysWhenDone words files (Some []) (Some taken) =
    λ done files of. (all files of).done_says (no_rise s.faults s.faults' none (quiet done))
    (no_rise 0 g refl (calm done)) done in
    record {
      in_short = λ done. of_one_reading words readings taken (λ files of. (done_says done files of).plain);
      done_says = done_says;
      answer_says = λ q w files of. (all files of).answer_says (no_rise s.faults s.faults' none q) (no_rise 0 g refl w);
      handed_over = λ q w has. all_handed words s readings st g taken
          (no_rise s.faults s.faults' none q) (no_rise 0 g refl w) has
          (handed_follows words s [] readings st 0 g (Some []) (Some taken) told h);
      done = λ done. (quiet done, calm done, λ some. own.done some done);
    }
