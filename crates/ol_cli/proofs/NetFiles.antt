-- What the bytes of a file with a net are answered, and that this is one status, and one text but
-- for the net that is left.
use Rattle.std.proofs.Common.{◌≡◌, ◌≢◌, ℕ, ◌≤◌, List, ◌++◌, length, false}
use Rattle.std.proofs.Common.{count_by, is_some, refl, sym, ap, ◌∙◌, subst, arith}
use Rattle.ol_net.specs.Graph.{Graph}
use Rattle.ol_net.specs.Indexes.{top_index_of}
use Rattle.ol_net.specs.Nets.{IsNet}
use Rattle.ol_net.specs.Numbered.{net_of, all_live}
use Rattle.ol_net.proofs.Linking.{length-all_live}
use Rattle.ol_net.proofs.Numbered.{net_is_net, few_live}
use Rattle.ol_netfile.specs.declared.faults.NetFault.{NetFault}
use Rattle.ol_netfile.specs.declared.faults.NetFault.TheVariants as fault
use Rattle.ol_netfile.specs.NetTexts.{Front, nothing, titled, so_far, Adds, title, free, node, link}
use Rattle.ol_netfile.specs.NetTexts.{Lines, none, more, IsNetRead, IsNetFault}
use Rattle.ol_netfile.proofs.SameNets.{net_is_one}
use Rattle.ol_netfile.proofs.Unique.{text-few}
use Rattle.ol_netfile.specs.FaultTexts.{fault_text}
use Rattle.ol_netfile.proofs.OneText.{net_has_no_fault, fault_is_one}
use Rattle.ol_rules.specs.Counting.{counts_of}
use Rattle.ol_readback.specs.Heads.{live}
use Rattle.ol_term.specs.declared.translations.Translation.{Translation}
use Rattle.ol_translate.proofs.Indexes.{top_is_low}
use Rattle.ol_wire.specs.Sizes.{IsSmallNet}
use Rattle.ol_words.specs.Texts.{Text}
use Rattle.ol_words.specs.declared.jobs.Job.{Job}
use Rattle.ol_words.specs.declared.jobs.Job.TheVariants as jobs
use Rattle.ol_cli.specs.declared.status.Status.{Status}
use Rattle.ol_cli.specs.declared.status.Status.TheVariants.{Done, Spent, Limit, BadNet}
use Rattle.ol_cli.specs.Laws.{HaveOneText}
use Rattle.ol_cli.specs.Texts.{line, counts_text}
use Rattle.ol_cli.specs.RefusalTexts.{nodes_text, spent_text}
use Rattle.ol_cli.specs.Run.{RunsOut}
use Rattle.ol_cli.specs.Net.{long, start_net, NetRunEnds, PrintsNet, NetAnswer, IsNetFile, NetFileAnswer, bad, of_net}
use Rattle.ol_cli.specs.Cases.{IsPastNodes}
use Rattle.ol_cli.proofs.Handing.{whole_net}
use Rattle.ol_cli.proofs.NetRuns.{one_left, left_or_runs_out}

-- ---- a net that is read can be rewritten

abbrev ports_few : Front → Type 0
ports_few nothing = Unit {0}
ports_few titled = Unit {0}
ports_few (so_far f ns ls) = f ≤ 1000000

adds_few : {a b : Front} {l : List ℕ} → Adds a l b → ports_few a → ports_few b
adds_few title h = tt
adds_few (free f few) h = few
adds_few (node f ns n few i) h = h
adds_few (link f ns ls l i j before after) h = h

lines_few : {b : Front} {n : ℕ} {s : List ℕ} → Lines nothing n s b → ports_few b
lines_few (none a) = tt
lines_few (more a b c n s l ls x) = adds_few x (lines_few ls)

pub read_whole : (bytes : List ℕ) (net : Graph) → IsNetRead bytes net → count_by is_some net.nodes ≡ length net.nodes
read_whole bytes net r = whole_net net r.nodes r.built.same_nodes

pub read_small : (bytes : List ℕ) (net : Graph) → IsNetRead bytes net → IsSmallNet net
read_small bytes net r =
    let few = (text-few bytes r.free r.nodes r.links r.spelled).0 in
    let ports : r.free ≤ 1000000 = lines_few r.spelled.1 in
    let size : length net.nodes ≡ length r.nodes = ap length r.built.same_nodes ∙ length-all_live r.nodes in
    let top : top_index_of (all_live r.nodes) ≤ 1000000 = top_is_low 1000000 r.nodes r.built.good_indexes in
    record {
      nodes = omega (arith, few, size);
      free = omega (arith, ports, r.built.same_free);
      indexes = subst (λ ns. top_index_of ns ≤ 1000000) (sym r.built.same_nodes) top;
    }

pub few_of_net : (net : Graph) (most : ℕ) → length net.nodes ≤ most → length (net_of net).nodes ≤ most
few_of_net net most h = let b = few_live 0 net.nodes in omega (arith, b, h)

-- ---- the statuses of a net

abbrev pub IsOfNet : Status → Type 0
IsOfNet Done = Unit {0}
IsOfNet Spent = Unit {0}
IsOfNet Limit = Unit {0}
IsOfNet BadNet = Unit {0}
IsOfNet _ = ⊥

net_status : (net : Graph) (fuel : ℕ) (st : Status) (text : List ℕ) → NetAnswer net fuel st text → IsOfNet st
net_status net fuel Done text h = tt
net_status net fuel Spent text h = tt
net_status net fuel Limit text h = tt
net_status net fuel BadNet text h = tt
net_status net fuel _ text h = h

pub net_file_status : (fuel : ℕ) (bytes : List ℕ) (st : Status) (text : List ℕ) →
    NetFileAnswer fuel bytes st text → IsOfNet st
net_file_status fuel bytes st text (long l e x) = subst IsOfNet (sym e) tt
net_file_status fuel bytes st text (bad l d f isnt e x) = subst IsOfNet (sym e) tt
net_file_status fuel bytes st text (of_net {net = net} i h) = net_status net fuel st text h

-- ---- one answer

-- one status, and one text as far as this job tells one
abbrev pub Alike : Job → Status → Status → List ℕ → List ℕ → Type 0
Alike job s s' x x' = (s ≡ s') × HaveOneText job s x x'

-- two answers of one status
pub alike_by : (job : Job) (s s' u : Status) (x x' : List ℕ) → s ≡ u → s' ≡ u →
    HaveOneText job u x x' → Alike job s s' x x'
alike_by job s s' u x x' e e' h = (e ∙ sym e', subst (λ s. HaveOneText job s x x') (sym e) h)

-- what a net is answered, by cases
data OfNet (net : Graph) (fuel : ℕ) : Status → List ℕ → Type 0 where
  runs_out : {text : List ℕ} → RunsOut (start_net net) fuel → text ≡ spent_text fuel → OfNet net fuel Spent text
  large : {text : List ℕ} → IsPastNodes net fuel → text ≡ nodes_text → OfNet net fuel Limit text
  printed : {text : List ℕ} → PrintsNet net fuel text → OfNet net fuel Done text

of_net_answer : (net : Graph) (fuel : ℕ) (st : Status) (text : List ℕ) →
    NetAnswer net fuel st text → OfNet net fuel st text
of_net_answer net fuel Spent text h = runs_out h.0 h.1
of_net_answer net fuel Limit text h = large (h.0, h.1.0) h.1.1
of_net_answer net fuel Done text h = printed h
of_net_answer net fuel _ text h = absurd h

module _ (net : Graph) (is_net : IsNet (net_of net)) (fuel : ℕ) where
  -- the net that is left is large or not
  not_both : IsPastNodes net fuel → {text : List ℕ} → PrintsNet net fuel text → ⊥
  not_both l p =
      let e = (one_left net is_net fuel l.0 p.ends).2 in
      let many = l.1 in let few = p.few in omega (arith, e, many, few)

  module _ (tr : Translation) (w : ℕ) (name : Text) where
    one_of_net : (s s' : Status) (x x' : List ℕ) → OfNet net fuel s x → OfNet net fuel s' x' →
        Alike (jobs.Net tr false w fuel name) s s' x x'
    one_of_net s s' x x' (runs_out r t) (runs_out r' t') = (refl, t ∙ sym t')
    one_of_net s s' x x' (runs_out r t) (large l t') = absurd
        (left_or_runs_out net is_net fuel r l.0.ends)
    one_of_net s s' x x' (runs_out r t) (printed p) = absurd
        (left_or_runs_out net is_net fuel r p.ends.ends)
    one_of_net s s' x x' (large l t) (runs_out r t') = absurd
        (left_or_runs_out net is_net fuel r l.0.ends)
    one_of_net s s' x x' (large l t) (large l' t') = (refl, t ∙ sym t')
    one_of_net s s' x x' (large l t) (printed p) = absurd (not_both l p)
    one_of_net s s' x x' (printed p) (runs_out r t) = absurd
        (left_or_runs_out net is_net fuel r p.ends.ends)
    one_of_net s s' x x' (printed p) (large l t) = absurd (not_both l p)
    one_of_net s s' x x' (printed p) (printed p') =
        let e = one_left net is_net fuel p'.ends p.ends in
        let counts = counts_of p.ends.ends.journal in
        let same = ap (λ c. counts_text c p'.ends.stuck ++ p'.rest) e.0
        ∙ ap (λ n. counts_text counts n ++ p'.rest) e.1 in
        (refl, (counts, p.ends.stuck, p.rest, p'.rest, p.written, p'.written ∙ same))

  -- where the run ends within the fuel and few nodes are left, the net is printed
  done_of_net : (s : Status) (x : List ℕ) (e : NetRunEnds net fuel) → live e.ends.net ≤ 200000 →
      OfNet net fuel s x → s ≡ Done
  done_of_net s x e few (runs_out r t) = absurd (left_or_runs_out net is_net fuel r e.ends)
  done_of_net s x e few (large l t) =
      let same = (one_left net is_net fuel l.0 e).2 in
      let many = l.1 in absurd (omega (arith, same, many, few))
  done_of_net s x e few (printed p) = refl

is_not_bad : (bytes : List ℕ) (net : Graph) (f : NetFault) → IsNetFile bytes net →
    IsNetFault bytes f → f ≢ fault.NoMemory → ⊥
is_not_bad bytes net f i h isnt = isnt (net_has_no_fault bytes net f i.read h)

-- the net of a file is one
one_net : (bytes : List ℕ) (g h : Graph) → IsNetFile bytes g → IsNetFile bytes h → g ≡ h
one_net bytes g h i j = net_is_one bytes g h i.tabled j.tabled i.read j.read

module _ (tr : Translation) (w : ℕ) (name : Text) where
  pub one_net_file : (fuel : ℕ) (bytes : List ℕ) (s s' : Status) (x x' : List ℕ) →
      NetFileAnswer fuel bytes s x → NetFileAnswer fuel bytes s' x' → Alike (jobs.Net tr false w fuel name) s s' x x'
  one_net_file fuel bytes s s' x x' (long l e t) (long l' e' t') = alike_by
      (jobs.Net tr false w fuel name) s s' Limit x x' e e' (t ∙ sym t')
  one_net_file fuel bytes s s' x x' (long l e t) (bad l' d f isnt e' t') = absurd (omega arith)
  one_net_file fuel bytes s s' x x' (long l e t) (of_net i h) = absurd (let short = i.short in omega arith)
  one_net_file fuel bytes s s' x x' (bad l d f isnt e t) (long l' e' t') = absurd (omega arith)
  one_net_file fuel bytes s s' x x' (bad l d f isnt e t) (bad l' d' f' isnt' e' t') =
      let same = ap (λ d. line (fault_text d)) (fault_is_one bytes d d' f f' isnt isnt') in
      alike_by (jobs.Net tr false w fuel name) s s' BadNet x x' e e' (t ∙ same ∙ sym t')
  one_net_file fuel bytes s s' x x' (bad l d f isnt e t) (of_net {net = net} i h) = absurd
      (is_not_bad bytes net d i f isnt)
  one_net_file fuel bytes s s' x x' (of_net i h) (long l' e' t') = absurd (let short = i.short in omega arith)
  one_net_file fuel bytes s s' x x' (of_net {net = net} i h) (bad l' d f' isnt' e' t') = absurd
      (is_not_bad bytes net d i f' isnt')
  one_net_file fuel bytes s s' x x' (of_net {net = g} i h) (of_net {net = k} i' h') =
      let h'' = subst (λ n. NetAnswer n fuel s' x') (one_net bytes k g i' i) h' in
      one_of_net g (net_is_net g i.tabled) fuel tr w name s s' x x' (of_net_answer g fuel s x h)
      (of_net_answer g fuel s' x' h'')

-- a file whose net is left small within the fuel is printed
pub done_net_file : (fuel : ℕ) (bytes : List ℕ) (net : Graph) → IsNetFile bytes net →
    (e : NetRunEnds net fuel) → live e.ends.net ≤ 200000 → (s : Status) (x : List ℕ) →
    NetFileAnswer fuel bytes s x → s ≡ Done
done_net_file fuel bytes net i ends few s x (long l e t) = absurd
    (let short = i.short in omega arith)
done_net_file fuel bytes net i ends few s x (bad l d f isnt e t) = absurd
    (is_not_bad bytes net d i f isnt)
done_net_file fuel bytes net i ends few s x (of_net {net = g} j h) =
    let h' = subst (λ n. NetAnswer n fuel s x) (one_net bytes g net j i) h in
    done_of_net net (net_is_net net i.tabled) fuel s x ends few (of_net_answer net fuel s x h')
