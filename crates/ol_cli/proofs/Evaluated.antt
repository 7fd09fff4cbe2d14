-- From the workers' net to what is printed of the term.
use Rattle.std.proofs.Common.{◌≡◌, ℕ, ◌+◌, ◌*◌, ◌<◌, ◌≤◌, Vec, Global, Result, Ok, Err, IfOk, true}
use Rattle.std.proofs.Common.{false, List, length, sym, ◌∙◌, subst, inl, inr, ◌⊎◌, arith}
use Rattle.std.proofs.lemmas.List.{length-map}
use Rattle.ol_limits.specs.declared.NoMemory.{NoMemory}
use Rattle.ol_term.specs.declared.translations.Translation.{Translation}
use Rattle.ol_term.specs.Trees.{Tree}
use Rattle.ol_net.specs.declared.parts.Kind.{Kind}
use Rattle.ol_net.specs.Graph.{Graph}
use Rattle.ol_net.specs.Nets.{NamedNet, HasNode, IsNet, SameNet, net_under}
use Rattle.ol_net.specs.Numbered.{net_of}
use Rattle.ol_net.specs.Pairs.{HasStuck, IsComplete, HasActive}
use Rattle.ol_rules.specs.declared.journal.NodeName.{NodeName}
use Rattle.ol_rules.specs.declared.journal.NodeName.TheVariants.{Init}
use Rattle.ol_rules.specs.declared.journal.Entry.{Entry}
use Rattle.ol_rules.specs.Counting.{counts_of}
use Rattle.ol_rules.specs.Names.{comes_before}
use Rattle.ol_rules.specs.Runs.{IsRun}
use Rattle.ol_rules.proofs.NameOrder.{not_before_itself}
use Rattle.ol_rules.proofs.Recount.{net_same}
use Rattle.ol_rules.proofs.Relation.{same_sym, same_trans}
use Rattle.ol_rules.proofs.Same.{complete_same, active_same}
use Rattle.ol_rules.proofs.UnderNames.{same_under, has_stuck_under}
use Rattle.ol_rules.proofs.OnTheWay.{node_below}
use Rattle.ol_diamond.proofs.SameNets.{run_from_same}
use Rattle.ol_translate.specs.Translation.{nodes_of, links_of, translation_of}
use Rattle.ol_wire.specs.Closed.{ClosedTable}
use Rattle.ol_wire.specs.Standing.{IsAfter}
use Rattle.ol_reduce.specs.Frozen.{IsFrozen}
use Rattle.ol_reduce.specs.Reduced.{IsTableOf}
use Rattle.ol_readback.specs.Heads.{live}
use Rattle.ol_readback.specs.ReadTrees.{IsTree}
use Rattle.ol_readback.specs.Texts.{IsTextOf}
use Rattle.ol_readback.specs.declared.answers.ReadNode.{ReadNode}
use Rattle.ol_cli.specs.Texts.{line, answer_text}
use Rattle.ol_cli.specs.Run.{start_net_of_term, Shows, RunsOut, Prints, journal_of, PrintsWork}
use Rattle.ol_cli.specs.Walk.{Walks}
use Rattle.ol_cli.proofs.NamedNets.{named_net}
use Rattle.ol_cli.proofs.ListedOnce.{net_of_once, net_of_parts_once, net_under_once, same_length}
use Rattle.ol_cli.proofs.TreeTransport.{tree_same, tree_under}
use Rattle.ol_invariance.proofs.Runs.{run_keeps_ports}
use Rattle.ol_cli.proofs.AnyRun.{any_run_prints, any_run_runs_out}

-- names that rise with their numbers give two numbers two names
pub rising_apart : (names : ℕ → NodeName) (n : ℕ) →
    ((j k : ℕ) → j < k → k < n → comes_before (names j) (names k) ≡ true) → (j k : ℕ) → j < n →
    k < n → names j ≡ names k → j ≡ k
rising_apart names n rising j k bj bk e = elim (which j k) [
  | inl r ↦ elim r [
    | inl lt ↦ absurd (clash j k (rising j k lt bk) e)
    | inr gt ↦ absurd (clash k j (rising k j gt bj) (sym e))
  ]
  | inr q ↦ q
]
  where
    which : (j k : ℕ) → ((j < k) ⊎ (k < j)) ⊎ (j ≡ k)
    which j k = grind arith

    clash : (j k : ℕ) → comes_before (names j) (names k) ≡ true → names j ≡ names k → ⊥
    clash j k h e =
        let itself : comes_before (names k) (names k) ≡ true = subst (λ z. comes_before z (names k) ≡ true) e h in
        let no = not_before_itself (names k) in
        (let z : true ≡ false = sym itself ∙ no in cc)

-- what was read, counted and written of a last net
pub record Told (names : List (List ℕ)) (heads stuck : ℕ) (journal : List Entry) (last : Graph)
    (tree : List ReadNode) (term text : List ℕ) : Type 0 where
  pub is_net : IsNet (net_of last)
  pub counted : HasStuck (net_of last) stuck
  pub read : IsTree (net_of last) heads (2 * live (net_of last)) tree
  pub shown : IsTextOf names tree term
  pub written : text ≡ answer_text term (counts_of journal) stuck

module _ (tr : Translation) (t : Tree) (names : List (List ℕ)) (start : Graph)
    (same : SameNet (net_of start) (translation_of tr t (length names)))
    (fuel seats : ℕ) (w : ClosedTable) (table : IsTableOf start fuel seats w)
    (net : NamedNet NodeName) (after : IsAfter w net)
  where
    pub words_run : IsRun (net_under Init (net_of start)) 0 (journal_of w) net
    words_run = subst (λ (g : Graph). IsRun (net_under Init (net_of g)) 0 (journal_of w) net) table.1 after

    -- the run of the words is one from the term's own net
    pub own_run : (M : NamedNet NodeName) × IsRun (start_net_of_term tr t names) 0 (journal_of w) M × SameNet net M
    own_run = run_from_same _ (start_net_of_term tr t names) net 0 (journal_of w)
        (same_under Init (net_of start) (translation_of tr t (length names)) same) words_run

    pub own_net : IsNet (net_of start) → IsNet (translation_of tr t (length names))
    own_net n = net_same (net_of start) (translation_of tr t (length names)) same n

    pub runs_out : IsNet (net_of start) → HasActive net → length (journal_of w) ≡ fuel →
        RunsOut (start_net_of_term tr t names) fuel
    runs_out n a full =
        let r = own_run in
        any_run_runs_out tr t names fuel (own_net n) (journal_of w) r.0 r.1
        (inr (full, (a.0, a.1, a.2, active_same net r.0 r.2 a.0 a.1 a.2 a.3)))

    module _ (last : Graph) (f : IsFrozen net last) where
      pub one_name : (x y : ℕ) (k l : Kind) (i j : ℕ) → HasNode (net_of last) x k i →
          HasNode (net_of last) y l j → f.names x ≡ f.names y → x ≡ y
      one_name x y k l i j h h' e = rising_apart f.names (length last.nodes) f.rising x y
          (node_below last x k i h) (node_below last y l j h') e

      -- the run keeps the free ports
      pub ports_kept : last.free ≡ 1 + length names
      ports_kept = f.same.free_ports ∙ run_keeps_ports _ net 0 (journal_of w) words_run ∙ same.free_ports

      module _ (heads stuck : ℕ) (tree : List ReadNode) (term text : List ℕ)
          (told : Told names heads stuck (journal_of w) last tree term text)
          (within : length (journal_of w) ≤ fuel) (complete : IsComplete net) where
        abbrev named : NamedNet NodeName
        named = net_under f.names (net_of last)

        shows : Shows names heads (journal_of w) named text
        shows =
            let size : live (net_of last) ≡ live named = sym
            (length-map (net_of last).nodes (λ (n : ℕ × Kind × ℕ). (f.names n.0, n.1, n.2))) in
            record {
              stuck = stuck;
              tree = tree;
              term = term;
              is_net = named_net f.names (net_of last) told.is_net one_name;
              once = net_under_once f.names (net_of last) one_name (net_of_once last);
              counted = has_stuck_under f.names (net_of last) told.is_net one_name stuck told.counted;
              read = subst (λ n. IsTree named heads (2 * n) tree) size
                  (tree_under f.names (net_of last) told.is_net one_name heads (2 * live (net_of last)) tree told.read);
              shown = told.shown;
              written = told.written;
            }

        pub prints_work : PrintsWork names heads (journal_of w) net text
        prints_work = record { last = last; frozen = f; shows = shows }

        -- what is printed of the workers' net is printed of the one-thread run
        pub own_prints : IsNet (net_of start) → Prints tr t names fuel heads text
        own_prints n =
            let r = own_run in
            let listed : SameNet r.0 named = same_trans r.0 net named (same_sym net r.0 r.2)
            (same_sym named net f.same) in
            any_run_prints tr t names fuel heads text (own_net n) (journal_of w) r.0 r.1
            (complete_same net r.0 r.2 complete)
            (record { within = within; listed = named; same = listed; shows = shows })

-- the tree of the untouched net is that of the translation
pub own_walks : (tr : Translation) (t : Tree) (names : List (List ℕ)) (net : Graph) →
    SameNet (net_of net) (translation_of tr t (length names)) →
    (edges heads : ℕ) (tree : List ReadNode) (term text : List ℕ) →
    IsTree (net_of net) heads edges tree → IsTextOf names tree term → text ≡ line term →
    Walks tr t names edges heads text
own_walks tr t names net start edges heads tree term text r sh w =
    let size = same_length (net_of net) (translation_of tr t (length names)) start (net_of_once net)
    (net_of_parts_once (1 + length names) (nodes_of tr t) (links_of tr t)) in
    record {
      tree = tree;
      term = term;
      read = tree_same (net_of net) (translation_of tr t (length names)) start size heads edges tree r;
      shown = sh;
      written = w;
    }

-- a text that was made, if one was
pub reads_text : (P : List ℕ → Type 0) (r : Result (Vec ℕ Global) NoMemory) (text : List ℕ) →
    IfOk r (λ v. v.items ≡ text) → ((x : List ℕ) → x ≡ text → P x) → IfOk r (λ v. P v.items)
reads_text P (Ok v) text h p = p v.items h
reads_text P (Err e) text h p = tt
