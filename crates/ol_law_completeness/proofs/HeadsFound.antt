-- A frame has a head where head reduction of the subterm that is seen there comes to a head normal
-- form.
use Rattle.std.proofs.Common.{ℕ, ◌<◌, List, [], ◌∷◌, ◌++◌, length}
use Rattle.ol_net.specs.Nets.{NamedNet}
use Rattle.ol_context.specs.Contexts.{levels}
use Rattle.ol_readback.specs.Frames.{Frame, frame_at, asked}
use Rattle.ol_readback.specs.Heads.{head, matched, NoPath, IsHead}
use Rattle.ol_readback.specs.Heads as heads
use Rattle.ol_readback.specs.ReadTrees.{Subterm, framed}
use Rattle.ol_readback.specs.declared.answers.HeadVar.{HeadVar}
use Rattle.ol_law_meaning.specs.Contraction.{Tree, Level, empty, cons, Place, root}
use Rattle.ol_law_meaning.specs.Heads.{os, outer, Normal, Steps}
use Rattle.ol_law_meaning.specs.Seen.{ahead, Chain, IsChain, Seats, IsSeen}
use Rattle.ol_law_meaning.proofs.Walking.{is_found, none_less}
use Rattle.ol_term.specs.declared.translations.Translation.{Translation}
use Rattle.ol_law_meaning.proofs.Showing.{from_asked, leads_path, exit_of, exit_matches}

module _ {τ : Translation} {A : Type 0} {N : NamedNet A} {ch : Chain} {P : Tree} {S : Seats}
    (F : List Frame) (s : Subterm) (seen : IsSeen τ N ch s.port s.levels P S)
    (chain : IsChain F (length F) s.parent ch) where
  none_before : {u : Tree} {m : ℕ} (r : Steps P u m) (y : Place) (a : Level) (j : ℕ) →
      Normal u y a j → (n : ℕ) → n < outer u →
      NoPath N (frame_at (F ++ framed s 0 ∷ []) (length F)).port
      (asked (frame_at (F ++ framed s 0 ∷ []) (length F)).levels n)
  none_before r y a j k n h q X t =
      let b = seen.back root (os n empty) (levels []) s.port q
      (ahead s.levels (cons (os n empty) (levels []))) X (seen.at_root (os n empty) (levels []))
      (from_asked F s seen chain n q X t) in
      none_less r y a j (levels []) k n b.3 b.0 b.1 b.2 h b.5

  pub has_head : {u : Tree} {m : ℕ} (r : Steps P u m) (y : Place) (a : Level) (j : ℕ) →
      Normal u y a j →
      (n : ℕ) × (k : ℕ) × (v : HeadVar) × (ls : List Level)
      × IsHead N (F ++ framed s 0 ∷ []) (length F) (head n v k ls)
  has_head {u = u} r y a j k =
      let x = is_found r y a j (levels []) k in
      let t = leads_path F s seen chain (outer u) x.2 y x.0 (cons (os j empty) (levels [])) x.3 in
      let few = none_before r y a j k in
      let e = exit_of F s seen chain (outer u) t.0 t.1 few t.2 in (
        outer u,
        e.args,
        e.says.says.variable,
        e.says.first,
        heads.leaves few t.2 (matched (exit_matches F s seen chain (outer u) t.0 t.1 e)),
      )
