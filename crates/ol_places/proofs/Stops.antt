-- Where a text stops, by its dead place.
use Rattle.std.proofs.Common.{◌≡◌, ℕ, ◌==◌, ◌≤◌, List, [], ◌++◌, length, take, refl, sym, subst, append-nil, arith}
use Rattle.std.proofs.Math.Seq.{take-length}
use Rattle.ol_parse.specs.Grammar.{Named}
use Rattle.ol_parse.specs.Texts.{IsText, BeginsText, IsRefusedAt}

-- a text begins a text
pub text_begins : (bytes : List ℕ) (t : Named) → IsText bytes t → BeginsText bytes
text_begins bytes t i = record {
  rest = [];
  whole = t;
  text = subst (λ b. IsText b t) (sym (append-nil bytes)) i;
}

-- bytes whose dead place is their end begin a text
pub end_begins : (bytes : List ℕ) (at : ℕ) → IsRefusedAt bytes at → at ≡ length bytes → BeginsText bytes
end_begins bytes at r e = subst BeginsText (take-length bytes) (subst (λ n. BeginsText (take n bytes)) e r.1.alive)

-- if bytes begin a text, their dead place is their end
pub begins_end : (bytes : List ℕ) (at : ℕ) → IsRefusedAt bytes at → BeginsText bytes → at ≡ length bytes
begins_end bytes at r b =
    let within = r.1.within in
    let long = r.1.longest (length bytes) (omega arith) (subst BeginsText (sym (take-length bytes)) b) in
    omega arith
