-- Groups of arguments, one after another.
use Rattle.std.proofs.Common.{◌≡◌, ℕ, zero, suc, ◌+◌, ◌-◌, ◌<◌, ◌≤◌, List, [], ◌∷◌, ◌++◌, map, Some}
use Rattle.std.proofs.Common.{refl, sym, ap, ◌∙◌, subst, arith, add-one, append_assoc}
use Rattle.std.proofs.lemmas.List.{append-nil, map-append}
use Rattle.ol_context.specs.Contexts.{Level, empty, o, star}
use Rattle.ol_context.specs.Shapes.{value, AreHeld, IsNumberOf, Extends}
use Rattle.ol_context.proofs.Shapes.{held_more, map_more, extends_refl}
use Rattle.ol_context.proofs.ValueLists.{held_append}
use Rattle.ol_readback.specs.Frames.{os}
use Rattle.ol_readback.specs.ReadTrees.{Subterm, arguments}
use Rattle.ol_readback.specs.Groups.{subterms_of, pending_of, IsHeldGroup, AreHeldGroups, IsPlacedGroup}
use Rattle.ol_readback.specs.Groups.{ArePlacedGroups, subterm_of, IsNextFrame, IsNext, IsGroupOf}
use Rattle.ol_readback.specs.declared.frames.Frame.{Frame}
use Rattle.ol_readback.specs.declared.groups.Group.{Group}

pub pending_push : (vs : List Level) (gs : List Group) (g : Group) →
    pending_of vs (gs ++ g ∷ []) ≡ subterms_of vs g ++ pending_of vs gs
pending_push vs [] g = sym (append-nil (subterms_of vs g))
pending_push vs (h ∷ gs) g = ap (λ r. r ++ subterms_of vs h) (pending_push vs gs g)
    ∙ append_assoc (subterms_of vs g) (pending_of vs gs) (subterms_of vs h)

pub held_push : (vs : List Level) (gs : List Group) (g : Group) → AreHeldGroups vs gs →
    IsHeldGroup vs g → AreHeldGroups vs (gs ++ g ∷ [])
held_push vs [] g h k = (k, tt)
held_push vs (x ∷ gs) g h k = (h.0, held_push vs gs g h.1 k)

pub held_pop : (vs : List Level) (gs : List Group) (g : Group) → AreHeldGroups vs (gs ++ g ∷ []) →
    AreHeldGroups vs gs × IsHeldGroup vs g
held_pop vs [] g h = (tt, h.0)
held_pop vs (x ∷ gs) g h = let t = held_pop vs gs g h.1 in ((h.0, t.0), t.1)

pub placed_push : (free count : ℕ) (gs : List Group) (g : Group) → ArePlacedGroups free count gs →
    IsPlacedGroup free count g → ArePlacedGroups free count (gs ++ g ∷ [])
placed_push free count [] g h k = (k, tt)
placed_push free count (x ∷ gs) g h k = (h.0, placed_push free count gs g h.1 k)

pub placed_pop : (free count : ℕ) (gs : List Group) (g : Group) →
    ArePlacedGroups free count (gs ++ g ∷ []) → ArePlacedGroups free count gs × IsPlacedGroup free count g
placed_pop free count [] g h = (tt, h.0)
placed_pop free count (x ∷ gs) g h = let t = placed_pop free count gs g h.1 in ((h.0, t.0), t.1)

pub placed_more : (free m n : ℕ) (gs : List Group) → m ≤ n → ArePlacedGroups free m gs → ArePlacedGroups free n gs
placed_more free m n [] b h = tt
placed_more free m n (g ∷ gs) b h = let p = h.0.parent in
    (record { port = h.0.port; parent = omega arith }, placed_more free m n gs b h.1)

-- values that are put later change no group
group_more : (vs ws : List Level) (g : Group) → Extends vs ws → IsHeldGroup vs g → IsHeldGroup ws g
group_more vs ws g x h = record {
  held = held_more vs ws g.at x h.held;
  mark = let a = x.longer in let b = h.mark.held in
      record { held = omega arith; is = x.same g.mark h.mark.held ∙ h.mark.is };
  left = h.left;
}

pub groups_more : (vs ws : List Level) (gs : List Group) → Extends vs ws → AreHeldGroups vs gs → AreHeldGroups ws gs
groups_more vs ws [] x h = tt
groups_more vs ws (g ∷ gs) x h = (group_more vs ws g x h.0, groups_more vs ws gs x h.1)

pub subterms_more : (vs ws : List Level) (g : Group) → Extends vs ws → AreHeld vs g.at →
    subterms_of ws g ≡ subterms_of vs g
subterms_more vs ws g x h = ap (λ ls. arguments g.parent g.port ls g.done (g.args - g.done)) (map_more vs ws g.at x h)

pub pending_more : (vs ws : List Level) (gs : List Group) → Extends vs ws → AreHeldGroups vs gs →
    pending_of ws gs ≡ pending_of vs gs
pending_more vs ws [] x h = refl
pending_more vs ws (g ∷ gs) x h = ap (λ r. r ++ subterms_of ws g) (pending_more vs ws gs x h.1)
    ∙ ap (λ r. pending_of vs gs ++ r) (subterms_more vs ws g x h.0.held)

-- the frame of the next argument of a group, with these levels
abbrev pub frame_for : Group → List ℕ → Frame
frame_for g ls = record { port = g.port; levels = ls; parent = Some g.parent; lams = 0 }

-- the group with this mark for argument d + 1
abbrev pub moved : Group → ℕ → ℕ → Group
moved g d m = record { parent = g.parent; port = g.port; at = g.at; args = g.args; done = d; mark = m }

module _ (vs : List Level) (gs hs : List Group) (g : Group) (ls : List ℕ) (e : gs ≡ hs ++ g ∷ [])
    (h : AreHeldGroups vs gs) (q : ls ≡ g.at ++ g.mark ∷ []) where
  popped : AreHeldGroups vs hs × IsHeldGroup vs g
  popped = held_pop vs hs g (subst (λ (gs : List Group). AreHeldGroups vs gs) e h)

  levels_held : AreHeld vs ls
  levels_held = subst (λ (ls : List ℕ). AreHeld vs ls) (sym q)
      (held_append vs g.at (g.mark ∷ []) popped.1.held (popped.1.mark.held, tt))

  levels_are : map (value vs) ls ≡ map (value vs) g.at ++ os g.done (star empty) ∷ []
  levels_are = ap (map (value vs)) q ∙ map-append (value vs) g.at (g.mark ∷ [])
      ∙ ap (λ v. map (value vs) g.at ++ v ∷ []) popped.1.mark.is

  subterm_is : (n : ℕ) → g.args - g.done ≡ suc n →
      subterms_of vs g ≡ subterm_of vs (frame_for g ls) ∷ arguments g.parent g.port (map (value vs) g.at) (suc g.done) n
  subterm_is n b =
      ap (arguments g.parent g.port (map (value vs) g.at) g.done) b
      ∙ ap (λ (ls : List Level). (let s : Subterm = record {
        port = g.port;
        levels = ls;
        parent = Some g.parent;
      } in s) ∷ arguments g.parent g.port (map (value vs) g.at)
      (suc g.done) n) (sym levels_are)

  is_next_frame : (ws : List Level) → Extends vs ws → (free count : ℕ) →
      IsPlacedGroup free count g → IsNextFrame free count ws (frame_for g ls)
  is_next_frame ws x free count p = record {
    held = held_more vs ws ls x levels_held;
    port = p.port;
    parent = λ i z. let z' : Some g.parent ≡ Some i = z in let y : g.parent ≡ i = cc in let b = p.parent in omega arith;
    fresh = refl;
  }

  placed_rest : (free count : ℕ) → ArePlacedGroups free count gs →
      ArePlacedGroups free count hs × IsPlacedGroup free count g
  placed_rest free count p = placed_pop free count hs g (subst (λ (gs : List Group). ArePlacedGroups free count gs) e p)

  pub next_last : g.args ≤ g.done + 1 → IsNext vs vs gs hs (frame_for g ls)
  next_last b = record {
    first =
        let l = popped.1.left in
        ap (pending_of vs) e ∙ pending_push vs hs g ∙ ap (λ r. r ++ pending_of vs hs) (subterm_is 0 (omega arith));
    held = popped.0;
    placed = λ free count p. let t = placed_rest free count p in
        (t.0, is_next_frame vs (extends_refl vs) free count t.1);
  }

  pub next_more : (ws : List Level) (m : ℕ) (new : List Group) → Extends vs ws →
      g.done + 1 < g.args → IsNumberOf ws m (o (value vs g.mark)) →
      new ≡ hs ++ moved g (g.done + 1) m ∷ [] → IsNext vs ws gs new (frame_for g ls)
  next_more ws m new x b k z = record {
    first =
        let n = g.args - (g.done + 1) in
        let c : g.args - g.done ≡ suc n = omega arith in
        ap (pending_of vs) e ∙ pending_push vs hs g ∙ ap (λ r. r ++ pending_of vs hs) (subterm_is n c)
        ∙ ap (λ (ls : List Level). (let s : Subterm = record {
          port = g.port;
          levels = ls;
          parent = Some g.parent;
        } in s) ∷ (arguments g.parent g.port (map (value vs) g.at)
        (suc g.done) n ++ pending_of vs hs)) (sym (map_more vs ws ls x levels_held))
        ∙ ap (λ r. subterm_of ws (frame_for g ls) ∷ (r ++ pending_of vs hs))
        (ap (λ d. arguments g.parent g.port (map (value vs) g.at) d n) (sym (add-one g.done))
        ∙ ap (λ ls. arguments g.parent g.port ls (g.done + 1) n) (sym (map_more vs ws g.at x popped.1.held)))
        ∙ ap (λ r. subterm_of ws (frame_for g ls) ∷ (subterms_of ws (moved g (g.done + 1) m) ++ r))
        (sym (pending_more vs ws hs x popped.0))
        ∙ ap (λ r. subterm_of ws (frame_for g ls) ∷ r) (sym (pending_push ws hs (moved g (g.done + 1) m)))
        ∙ ap (λ r. subterm_of ws (frame_for g ls) ∷ pending_of ws r) (sym z);
    held = subst (λ (gs : List Group). AreHeldGroups ws gs) (sym z)
        (held_push ws hs (moved g (g.done + 1) m) (groups_more vs ws hs x popped.0) (record {
          held = held_more vs ws g.at x popped.1.held;
          mark = record {
            held = k.held;
            is = k.is ∙ ap o popped.1.mark.is
                ∙ ap (λ n. os n (star empty)) (sym (add-one g.done));
          };
          left = b;
        }));
    placed = λ free count p.
        let t = placed_rest free count p in (
          subst (λ (gs : List Group). ArePlacedGroups free count gs) (sym z)
              (placed_push free count hs (moved g (g.done + 1) m) t.0
              (record { port = t.1.port; parent = t.1.parent })),
          is_next_frame ws x free count t.1,
        );
  }

pub mark_held : (vs : List Level) (gs hs : List Group) (g : Group) → gs ≡ hs ++ g ∷ [] →
    AreHeldGroups vs gs → IsHeldGroup vs g
mark_held vs gs hs g e h = (held_pop vs hs g (subst (λ (gs : List Group). AreHeldGroups vs gs) e h)).1

pub group_is : (old new : List Level) (parent port args : ℕ) (at : List ℕ) (none m : ℕ) →
    Extends old new → AreHeld old at → (args ≡ 0 → ⊥) → IsNumberOf old none empty →
    IsNumberOf new m (star (value old none)) →
    IsGroupOf old new parent port args at
    (Some (record { parent = parent; port = port; at = at; args = args; done = 0; mark = m }))
group_is old new parent port args at none m x h b n k = record {
  is = let e : args - 0 ≡ args = omega arith in
      ap (arguments parent port (map (value new) at) 0) e
      ∙ ap (λ ls. arguments parent port ls 0 args) (map_more old new at x h);
  held = record {
    held = held_more old new at x h;
    mark = record { held = k.held; is = k.is ∙ ap star n.is };
    left = some args b;
  };
  placed = λ free count p c. record { port = p; parent = c };
}
  where
    some : (n : ℕ) → (n ≡ 0 → ⊥) → 0 < n
    some zero b = absurd (b refl)
    some (suc n) b = omega arith
