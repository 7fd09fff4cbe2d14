-- The end of a chain, and the values that are kept.
use Rattle.std.proofs.Common.{◌≡◌, ℕ, List, ◌∷◌, [], ◌++◌, length, take, map, refl, sym, ap, ◌∙◌, subst}
use Rattle.std.proofs.lemmas.List.{map-append}
use Rattle.ol_net.specs.declared.parts.NodeId.{NodeId}
use Rattle.ol_net.specs.declared.parts.Port.{Port}
use Rattle.ol_net.specs.Graph.{Graph}
use Rattle.ol_net.specs.Nets.{slot}
use Rattle.ol_net.specs.Numbered.{net_of, numbered_port}
use Rattle.ol_context.specs.Contexts.{Level, empty, Context, levels}
use Rattle.ol_context.specs.Asked.{os, asked}
use Rattle.ol_context.specs.Shapes.{value, Extends, AreHeld, IsNumberOf, context_of}
use Rattle.ol_context.proofs.Shapes.{extends_refl, map_more}
use Rattle.ol_readback.specs.declared.answers.Head.TheVariants.{NoHead}
use Rattle.ol_readback.proofs.Dropped.{unchanged}
use Rattle.ol_demand.specs.Chains.{Chain, at_pair}
use Rattle.ol_demand.proofs.OnChains.{Chaining}
use Rattle.ol_decoding.specs.declared.chaining.End.{End}
use Rattle.ol_decoding.specs.declared.chaining.End.TheVariants as code
use Rattle.ol_decoding.specs.Chaining.{IsInPair, IsEndOf, IsHeldEnd, KeepsFirst}

-- it stands at an active pair
pub meets : (g : Graph) (from : ℕ) (c : Context) (old vs : List Level) (ns : List ℕ) (at : Port) (made most : ℕ)
    (x : NodeId) → Chaining g from c old vs ns at made most → numbered_port at ≡ slot x.0 0 → IsInPair g x →
    (us : List Level) → IsEndOf g from c us (code.Met x)
meets g from c old vs ns at made most x w e p us = (
  p,
  λ f k r a. record {
    made = made;
    port = slot x.0 0;
    context = context_of vs ns;
    chain = subst (λ q. Chain (net_of g) from c made q (context_of vs ns)) e w.chain;
    stands = at_pair a;
  },
)

-- what is known of values of which some may be taken away
pub record Ended (g : Graph) (p : ℕ) (c : Context) (old new : List Level) (e : End) : Type 0 where
  pub extends : Extends old new
  pub kept : KeepsFirst old new new e
  pub held : IsHeldEnd new e
  pub ends : IsEndOf g p c new e

module _ (g : Graph) (p : ℕ) (c : Context) (old mid new : List Level) (count : ℕ) (z : count ≡ length old)
    (x : Extends old mid) where
  dropped : new ≡ take count mid → new ≡ old
  dropped e = unchanged old mid new count z x NoHead e

  gone : new ≡ take count mid → Extends old new
  gone e = subst (Extends old) (sym (dropped e)) (extends_refl old)

  pub ended : (e : End) → KeepsFirst (take count mid) mid new e → IsHeldEnd mid e → IsEndOf g p c mid e →
      Ended g p c old new e
  ended (code.Met n) k h d = record { extends = gone k; kept = dropped k; held = tt; ends = d }
  ended (code.Left q ms) k h d = record {
    extends = subst (Extends old) (sym k) x;
    kept = refl;
    held = subst (λ (vs : List Level). AreHeld vs ms) (sym k) h;
    ends = subst (λ (vs : List Level). IsEndOf g p c vs (code.Left q ms)) (sym k) d;
  }
  ended code.Undefined k h d = record { extends = gone k; kept = dropped k; held = tt; ends = d }
  ended code.Budget k h d = record { extends = gone k; kept = dropped k; held = tt; ends = d }

-- the context of a question
pub question_is : (old vs : List Level) (ls : List ℕ) (mark n : ℕ) → Extends old vs → AreHeld old ls →
    IsNumberOf vs mark (os n empty) → context_of vs (ls ++ mark ∷ []) ≡ asked (map (value old) ls) n
question_is old vs ls mark n x h m =
    ap levels (map-append (value vs) ls (mark ∷ []) ∙ ap (λ ks. ks ++ value vs mark ∷ []) (map_more old vs ls x h)
    ∙ ap (λ v. map (value old) ls ++ v ∷ []) m.is)
