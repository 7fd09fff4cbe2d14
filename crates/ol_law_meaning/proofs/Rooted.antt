-- Heads over a term's net, by its spots.
use Rattle.std.proofs.Common.{◌≡◌, ℕ, ◌+◌, ◌≤◌, subst, sym}
use Rattle.ol_net.specs.Nets.{free}
use Rattle.ol_context.specs.Paths.{Path}
use Rattle.ol_translate.specs.Translation.{translation_of}
use Rattle.ol_translate.specs.Names.{HasNames}
use Rattle.ol_law_meaning.specs.Spots.{place, applications}
use Rattle.ol_law_meaning.proofs.Followed.{net_and_spots, path_is_trail}
use Rattle.ol_law_meaning.specs.Contraction.{Tree, Level, empty, Context, cons, tail, root, at, Leads}
use Rattle.ol_law_meaning.specs.Heads.{os, outer, Normal, Steps, SameAlong}
use Rattle.ol_law_meaning.proofs.Walking.{found, is_found}
use Rattle.ol_term.specs.declared.translations.Translation.{Translation}

module _ (τ : Translation) where
  pub path_finds : (t : Tree) (names : ℕ) → HasNames t names → (q n : ℕ) (c d : Context) →
      c 0 ≡ os n empty → (r : Path (translation_of τ t names) (free 0) c q d) →
      (u : Tree) × (m : ℕ) × (s : Steps t u m) × (m ≤ applications r) × (a : Level) × (j : ℕ)
      × Normal u (place q) a j × SameAlong τ s (place q) (d 0) a × (e : ℕ) × (n ≡ outer u + e)
      × (tail d ≡ cons (os (j + e) empty) (tail c))
  path_finds t names h q n c d e r =
      found t (place q) (d 0) (tail c) (tail d) n (applications r)
      (subst (λ v. Leads τ t (at root v (tail c)) (at (place q) (d 0) (tail d))
      (applications r)) e (path_is_trail τ t names h 0 q c d r))

  pub head_has_path : (t : Tree) (names : ℕ) → HasNames t names →
      (u : Tree) (m : ℕ) (s : Steps t u m) (q : ℕ) (a : Level) (j : ℕ) → Normal u (place q) a j →
      (c : Context) → c 0 ≡ os (outer u) empty →
      (v : Level) × SameAlong τ s (place q) v a
      × Path (translation_of τ t names) (free 0) c q (cons v (cons (os j empty) (tail c)))
  head_has_path t names h u m s q a j k c e =
      let y = is_found s (place q) a j (tail c) k in
      let l = subst (λ v. Leads τ t (at root v (tail c))
      (at (place q) y.0 (cons (os j empty) (tail c))) y.2) (sym e) y.3 in
      (y.0, y.1, (net_and_spots τ t names h 0 q c (cons y.0 (cons (os j empty) (tail c)))).1 (y.2, l))
