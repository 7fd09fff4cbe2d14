-- What is written for the job's own term, where a job is done and its text has fewer than 2^64 bytes: the facts of its tree.
use Rattle.std.proofs.Common.{◌≡◌, ◌∙◌, ℕ, zero, suc, ◌+◌, ◌-◌, ◌*◌, ◌^◌, ◌<◌, ◌≤◌, Bool, true, false, List, [], ◌∷◌, ◌++◌, codes}
use Rattle.std.proofs.Common.{refl, length, Option, Some, String, Global, sym, ap, subst, arith, length-append}
use Rattle.std.proofs.lemmas.Option.{same_Some}
use Rattle.ol_io.specs.Outside.{Rose}
use Rattle.ol_limits.specs.Limits.{most_nodes}
use Rattle.ol_term.specs.declared.translations.Translation.{Translation}
use Rattle.ol_term.specs.Trees.{Tree}
use Rattle.ol_term.specs.NameLists.{NoNameTwice}
use Rattle.ol_term.specs.Generated.{doubled_text}
use Rattle.ol_parse.specs.Parsed.{IsFileOf, AreNames}
use Rattle.ol_parse.specs.Numbered.{free_in}
use Rattle.ol_parse.proofs.Exact.{one_file}
use Rattle.ol_parse.proofs.Words.{names_good}
use Rattle.ol_translate.specs.Names.{HasNames}
use Rattle.ol_translate.specs.Sizes.{size_of_translation}
use Rattle.ol_translate.specs.Translation.{translation_of}
use Rattle.ol_translate.proofs.Bound.{few_names}
use Rattle.ol_translate.proofs.Sizing.{size_of_nodes}
use Rattle.ol_translate.proofs.Whole.{translation_net}
use Rattle.ol_readback.specs.Heads.{live}
use Rattle.ol_readback.specs.Sources.{HasHeadsOf}
use Rattle.ol_readback.specs.Terms.{HasAllHeads, IsReadBack}
use Rattle.ol_readback.specs.Texts.{AreNamed, IsTextOf}
use Rattle.ol_readback.specs.declared.answers.ReadNode.{ReadNode}
use Rattle.ol_readback.proofs.Forests.{heads_are_whole, tree_is_whole}
use Rattle.ol_readback.proofs.Named.{heads_are_named}
use Rattle.ol_readback.proofs.Reread.{printed_is_read}
use Rattle.ol_readback.proofs.Sources.{own_heads}
use Rattle.ol_rules.proofs.LeadRuns.{as_run}
use Rattle.ol_law_completeness.proofs.CompleteRuns.{complete_is_enough}
use Rattle.ol_law_completeness.proofs.Demanded.{demanded_is_enough}
use Rattle.ol_law_completeness.proofs.TheLeast.{demand_is_the_least}
use Rattle.ol_law_confluence.proofs.PrintedTrees.{says_always}
use Rattle.ol_law_levels.proofs.AskedTrees.{asked_heads, asked_kept, last_tree_tells}
use Rattle.ol_law_levels.proofs.DemandPlaces.{demand_tells as places_told}
use Rattle.ol_law_meaning.proofs.Based.{places_say}
use Rattle.ol_law_meaning.proofs.FileNames.{file_names}
use Rattle.ol_words.specs.Texts.{Text}
use Rattle.ol_words.specs.declared.jobs.Job.{Job}
use Rattle.ol_words.specs.declared.jobs.Job.TheVariants as jobs
use Rattle.ol_cli.specs.declared.status.Status.TheVariants.{Done}
use Rattle.ol_cli.specs.Answers.{Ends, HasCause}
use Rattle.ol_cli.specs.Cases.{FileAnswer, JobAnswer, made, of_file, seen}
use Rattle.ol_cli.specs.Demand.{Demands}
use Rattle.ol_cli.specs.Generate.{plain_run}
use Rattle.ol_cli.specs.Jobs.{AreTold, AskFor, Files, TellsFiles, TellsTerm, term_bytes}
use Rattle.ol_cli.specs.Run.{Prints, start_net_of_term}
use Rattle.ol_cli.specs.Sources.{DemandsTree, PrintsTree, TellsTree, WalksTree, WritesTree}
use Rattle.ol_cli.specs.TermFiles.{IsTermFile}
use Rattle.ol_cli.specs.Walk.{Walks}
use Rattle.ol_cli.proofs.Causing.{cause_cases}
use Rattle.ol_cli.proofs.Exact.{cause_answer}
use Rattle.ol_cli.proofs.NamesOnce.{once_once}
use Rattle.ol_cli.proofs.OneAnswer.{one_job, own_job, same_answer}
use Rattle.ol_cli.proofs.Sourced.{one_name}
use Rattle.ol_cli.proofs.StartNet.{start_net_is_fit}

-- a line of a text is no longer than the text
shorter : (text line rest : List ℕ) → text ≡ (line ++ 10 ∷ []) ++ rest → length text < 2 ^ 64 → length line < 2 ^ 64
shorter text line rest e h =
    let a = ap length e in let b = length-append (line ++ 10 ∷ []) rest in let c = length-append line (10 ∷ []) in
    omega (arith, a, b, c, h)

-- ---- by names of the grammar that differ

module _ (tr : Translation) (t : Tree) (names : List (List ℕ)) (has : HasNames t (length names)) (good : AreNames names)
    (differ : NoNameTwice names) (few : length names < 2 ^ 32) where
  read_back : (lost_too : Bool) (ns : List ReadNode) (term : List ℕ) → length term < 2 ^ 64 →
      HasHeadsOf (translation_of tr t (length names)) lost_too ns → IsTextOf names ns term → HasAllHeads ns →
      IsReadBack names ns term
  read_back lost_too ns term short own shown all =
      let N = translation_of tr t (length names) in
      let ports : N.free_ports ≡ 1 + length names = refl in
      let count : N.free_ports - 1 ≡ length names = omega (arith, ports) in
      printed_is_read names ns term good differ few short
      (subst (λ n. AreNamed n ns) count (heads_are_named N lost_too ns (translation_net tr t (length names) has) own))
      (heads_are_whole N lost_too ns own) all shown

  prints_tree : (fuel heads : ℕ) (text : List ℕ) → length text < 2 ^ 64 → Prints tr t names fuel heads text →
      PrintsTree tr t names fuel heads text
  prints_tree fuel heads text short p =
      let s = p.shows in
      let N = translation_of tr t (length names) in
      let ran = as_run (start_net_of_term tr t names) p.ends.net 0 p.ends.journal p.ends.run.leads in
      let asked = last_tree_tells tr t (length names) has p.ends.journal p.ends.net ran p.ends.complete heads
      (2 * live p.ends.net) s.tree (omega arith) s.read in
      let own = asked_heads N heads s.tree asked in
      let whole = tree_is_whole p.ends.net heads (2 * live p.ends.net) s.tree s.read in
      let says = places_say tr t (length names) has true whole.tree s.tree whole.is_list own in
      record {
        prints = p;
        own_heads = asked;
        says = says;
        always = says_always says;
        read_again = read_back true s.tree s.term (shorter text s.term _ s.written short) own s.shown;
      }

  walks_tree : (edges heads : ℕ) (text : List ℕ) → length text < 2 ^ 64 → Walks tr t names edges heads text →
      WalksTree tr t names edges heads text
  walks_tree edges heads text short w =
      let N = translation_of tr t (length names) in
      let own = (own_heads N (translation_net tr t (length names) has) heads edges w.tree w.read).0 in
      let whole = tree_is_whole N heads edges w.tree w.read in
      let says = places_say tr t (length names) has false whole.tree w.tree whole.is_list own in
      let a = ap length w.written in
      let c = length-append w.term (10 ∷ []) in
      record {
        walks = w;
        own_heads = own;
        says = says;
        always = says_always says;
        read_again = read_back false w.tree w.term (omega (arith, a, c, short)) own w.shown;
      }

  demands_tree : (fuel heads : ℕ) (text : List ℕ) → length text < 2 ^ 64 → Demands tr t names fuel heads text →
      DemandsTree tr t names fuel heads text
  demands_tree fuel heads text short d =
      let N = translation_of tr t (length names) in
      let start = start_net_of_term tr t names in
      let fit = start_net_is_fit tr t names has in
      let s = fit.0.start in
      let clear = fit.0.clear in
      let asked = asked_kept start N (λ p c q e. ((fit.1 p c q e).1, (fit.1 p c q e).0)) heads d.ends.tree
      (places_told start d.ends.net heads d.ends.journal d.ends.tree s fit.0.levelled d.ends.run) in
      let own = asked_heads N heads d.ends.tree asked in
      let whole = heads_are_whole N true d.ends.tree own in
      let says = places_say tr t (length names) has true whole.tree d.ends.tree whole.is_list own in
      record {
        demands = d;
        own_heads = asked;
        says = says;
        always = says_always says;
        read_again = read_back true d.ends.tree d.term (shorter text d.term _ d.written short) own d.shown;
        enough = demanded_is_enough start d.ends.net heads d.ends.journal d.ends.tree s clear d.ends.run;
        least = demand_is_the_least start d.ends.net heads d.ends.journal d.ends.tree s clear d.ends.run;
        complete = complete_is_enough start d.ends.net heads d.ends.journal d.ends.tree s clear d.ends.run;
      }

-- ---- by the names of the job's own term

module _ (bytes : List ℕ) (t : Tree) (names : List (List ℕ)) (f : IsFileOf bytes t names) (text : List ℕ)
    (short : length text < 2 ^ 64) where
  own_few : (tr : Translation) (u : Tree) (others : List (List ℕ)) → IsTermFile tr bytes u others → length names < 2 ^ 32
  own_few tr u others i =
      let same = one_file bytes u t others names i.file f in
      let small = subst (λ (t : Tree). size_of_translation tr t ≤ most_nodes) same.0 i.small in
      let a = few_names tr t (length names) (file_names bytes t names f) in
      let b = size_of_nodes tr t in
      omega (arith, small, a, b)

  good : AreNames names
  good = subst AreNames (sym f.free_names) (names_good bytes f.named f.text)

  differ : NoNameTwice names
  differ = subst NoNameTwice (sym f.free_names) (once_once (free_in [] f.named))

  has : HasNames t (length names)
  has = file_names bytes t names f

  run_tells : (tr : Translation) (workers fuel heads : ℕ) (name : Text) → FileAnswer (jobs.Run tr workers fuel heads name) bytes Done text →
      PrintsTree tr t names fuel heads text
  run_tells tr workers fuel heads name h =
      prints_tree tr t names has good differ (own_few tr h.0 h.1 h.2) fuel heads text short
      (same_answer (jobs.Run tr workers fuel heads name) bytes t h.0 names h.1 f h.2.file Done text h.3)

  walk_tells : (tr : Translation) (edges heads : ℕ) (name : Text) → FileAnswer (jobs.Walk tr edges heads name) bytes Done text →
      WalksTree tr t names edges heads text
  walk_tells tr edges heads name h =
      walks_tree tr t names has good differ (own_few tr h.0 h.1 h.2) edges heads text short
      (same_answer (jobs.Walk tr edges heads name) bytes t h.0 names h.1 f h.2.file Done text h.3)

  demand_tells : (tr : Translation) (fuel heads : ℕ) (name : Text) → FileAnswer (jobs.Demand tr fuel heads name) bytes Done text →
      DemandsTree tr t names fuel heads text
  demand_tells tr fuel heads name h =
      demands_tree tr t names has good differ (own_few tr h.0 h.1 h.2) fuel heads text short
      (same_answer (jobs.Demand tr fuel heads name) bytes t h.0 names h.1 f h.2.file Done text h.3)

  by_job : (files : Files) (job : Job) → term_bytes (files 0) job ≡ Some bytes → JobAnswer files Done text job →
      TellsTree job t names text
  by_job files (jobs.Run tr workers fuel heads name) told (of_file {bytes = other} on e h) = run_tells tr workers fuel heads name
      (subst (λ b. FileAnswer (jobs.Run tr workers fuel heads name) b Done text) (same_Some other bytes (sym e ∙ told)) h)
  by_job files (jobs.Walk tr edges heads name) told (of_file {bytes = other} on e h) = walk_tells tr edges heads name
      (subst (λ b. FileAnswer (jobs.Walk tr edges heads name) b Done text) (same_Some other bytes (sym e ∙ told)) h)
  by_job files (jobs.Demand tr fuel heads name) told (of_file {bytes = other} on e h) = demand_tells tr fuel heads name
      (subst (λ b. FileAnswer (jobs.Demand tr fuel heads name) b Done text) (same_Some other bytes (sym e ∙ told)) h)
  by_job files (jobs.Gen tr true k) told (made m) = run_tells tr 4 200000 4096 (codes "-")
      (subst (λ b. FileAnswer (plain_run tr) b Done text) (same_Some (doubled_text k) bytes told) m)
  by_job files (jobs.Gen tr true k) told (of_file on e h) = absurd on
  by_job files _ told a = tt

-- ---- by how the call ended

module _ (words : List (String Global)) (files : Files) (f f' given : ℕ) (ended : Bool) (g g' : ℕ) (old new : Option (List ℕ))
    (h : Ends (HasCause words (seen f f' files given ended)) Done g g' old new)
    (quiet : Rose f f' → ⊥) (bytes : List ℕ) (tells : TellsTerm (files 0) words bytes) where
  pub writes_tree : WritesTree words bytes old new
  writes_tree job t names j file = (h.1, go job j, h.3.2)
    where
      told : HasCause words (seen f f' files given ended) Done h.1
      told = subst (λ st. HasCause words (seen f f' files given ended) st h.1) (sym h.3.0) h.2

      call : (job : Job) → AskFor words job → AreTold files job → TellsTree job t names h.1
      call here j at =
          let all : TellsFiles files words = λ job j'. subst (AreTold files) (one_job words here job j j') at in
          by_job bytes t names file h.1 h.4 files here (tells here j)
          (own_job words files here j Done h.1
          (cause_answer words f f' given files ended quiet all Done h.1 (cause_cases words (seen f f' files given ended) Done h.1 told)))

      no_name : (tr : Translation) (k : ℕ) → AreTold files (jobs.Gen tr true k)
      no_name tr k zero n is = absurd (cc)
      no_name tr k (suc place) n is = absurd (cc)

      go : (job : Job) → AskFor words job → TellsTree job t names h.1
      go (jobs.Run tr workers fuel heads name) j = call (jobs.Run tr workers fuel heads name) j
          (one_name files bytes name (tells (jobs.Run tr workers fuel heads name) j))
      go (jobs.Walk tr edges heads name) j = call (jobs.Walk tr edges heads name) j
          (one_name files bytes name (tells (jobs.Walk tr edges heads name) j))
      go (jobs.Gen tr true k) j = call (jobs.Gen tr true k) j (no_name tr k)
      go (jobs.Demand tr fuel heads name) j = call (jobs.Demand tr fuel heads name) j
          (one_name files bytes name (tells (jobs.Demand tr fuel heads name) j))
      go _ j = tt
