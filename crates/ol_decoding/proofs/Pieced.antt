-- Values, written piece by piece.
use Rattle.std.proofs.Common.{◌≡◌, ℕ, ◌+◌, ◌<◌, List, [], ◌∷◌, ◌++◌, length, refl, sym, ap, ◌∙◌, arith, append_assoc}
use Rattle.std.proofs.lemmas.List.{append-nil}
use Rattle.std.specs.Prelude.{codes}
use Rattle.ol_context.specs.Contexts.{Level, empty, o, star, pair}
use Rattle.ol_context.specs.Shapes.{value}
use Rattle.ol_decoding.specs.declared.writing.Piece.{Piece}
use Rattle.ol_decoding.specs.declared.writing.Piece.TheVariants.{Value, Comma, Close}
use Rattle.ol_decoding.specs.Lines.{level_text}
use Rattle.ol_decoding.specs.Pieces.{piece_text, pieces_text, IsHeldPiece, AreHeldPieces, level_size, piece_size, pieces_size, Writes}

pub pieces_push : (vs : List Level) (ps : List Piece) (p : Piece) →
    pieces_text vs (ps ++ p ∷ []) ≡ piece_text vs p ++ pieces_text vs ps
pieces_push vs [] p = sym (append-nil (piece_text vs p))
pieces_push vs (q ∷ ps) p = ap (λ x. x ++ piece_text vs q) (pieces_push vs ps p)
    ∙ append_assoc (piece_text vs p) (pieces_text vs ps) (piece_text vs q)

size_push : (vs : List Level) (ps : List Piece) (p : Piece) →
    pieces_size vs (ps ++ p ∷ []) ≡ piece_size vs p + pieces_size vs ps
size_push vs [] p = omega arith
size_push vs (q ∷ ps) p = let r = size_push vs ps p in omega arith

held_push : (vs : List Level) (ps : List Piece) (p : Piece) → AreHeldPieces vs ps → IsHeldPiece vs p →
    AreHeldPieces vs (ps ++ p ∷ [])
held_push vs [] p hs h = (h, tt)
held_push vs (q ∷ ps) p hs h = (hs.0, held_push vs ps p hs.1 h)

pub held_first : (vs : List Level) (ps : List Piece) (p : Piece) → AreHeldPieces vs (ps ++ p ∷ []) →
    AreHeldPieces vs ps
held_first vs [] p h = tt
held_first vs (q ∷ ps) p h = (h.0, held_first vs ps p h.1)

pub held_last : (vs : List Level) (ps : List Piece) (p : Piece) → AreHeldPieces vs (ps ++ p ∷ []) →
    IsHeldPiece vs p
held_last vs [] p h = h.0
held_last vs (q ∷ ps) p h = held_last vs ps p h.1

two_and_two : (w x y z : List ℕ) → (w ++ x) ++ (y ++ z) ≡ w ++ ((x ++ y) ++ z)
two_and_two w x y z = simp append_assoc

five : (u w x k y z p : List ℕ) → (u ++ w) ++ (x ++ (k ++ (y ++ (z ++ p))))
    ≡ u ++ ((w ++ (x ++ (k ++ (y ++ z)))) ++ p)
five u w x k y z p = simp append_assoc

positive : (v : Level) → 0 < level_size v
positive empty = omega arith
positive (o v) = omega arith
positive (star v) = omega arith
positive (pair v w) = omega arith

module _ (vs : List Level) (ps : List Piece) (hs : AreHeldPieces vs ps) (old new : List ℕ) where
  abbrev rest : List ℕ
  rest = pieces_text vs ps

  -- a piece that leaves none
  ends : (p : Piece) → 0 < piece_size vs p → new ≡ old ++ piece_text vs p →
      Writes vs (ps ++ p ∷ []) old ps new
  ends p b t = record {
    written = ap (λ x. x ++ rest) t ∙ append_assoc old (piece_text vs p) rest
        ∙ ap (λ x. old ++ x) (sym (pieces_push vs ps p));
    held = hs;
    fewer = let s = size_push vs ps p in omega arith;
  }

  pub wrote_comma : new ≡ old ++ codes "," → Writes vs (ps ++ Comma ∷ []) old ps new
  wrote_comma t = ends Comma (omega arith) t

  pub wrote_close : new ≡ old ++ codes ">" → Writes vs (ps ++ Close ∷ []) old ps new
  wrote_close t = ends Close (omega arith) t

  module _ (of : ℕ) where
    abbrev before : List Piece
    before = ps ++ Value of ∷ []

    pub wrote_empty : value vs of ≡ empty → new ≡ old ++ codes "empty" → Writes vs before old ps new
    wrote_empty e t = ends (Value of) (positive (value vs of)) (t ∙ ap (λ v. old ++ level_text v) (sym e))

    -- one value more within it
    one : (first : List ℕ) (v : Level) (a : ℕ) (qs : List Piece) → value vs of ≡ v →
        level_text v ≡ first ++ level_text (value vs a) → level_size v ≡ 1 + level_size (value vs a) →
        a < length vs → new ≡ old ++ first → qs ≡ ps ++ Value a ∷ [] → Writes vs before old qs new
    one first v a qs e l z h t q = record {
      written = ap (λ x. x ++ pieces_text vs qs) t ∙ ap (λ x. (old ++ first) ++ x)
          (ap (pieces_text vs) q ∙ pieces_push vs ps (Value a))
          ∙ two_and_two old first (level_text (value vs a)) rest
          ∙ ap (λ x. old ++ (x ++ rest)) (sym (ap level_text e ∙ l))
          ∙ ap (λ x. old ++ x) (sym (pieces_push vs ps (Value of)));
      held = subst_held (held_push vs ps (Value a) hs h);
      fewer =
          let s : pieces_size vs before ≡ level_size (value vs of) + pieces_size vs ps = size_push vs ps (Value of) in
          let r : pieces_size vs qs ≡ level_size (value vs a) + pieces_size vs ps =
          ap (pieces_size vs) q ∙ size_push vs ps (Value a) in
          let n : level_size (value vs of) ≡ 1 + level_size (value vs a) = ap level_size e ∙ z in omega arith;
    }
      where
        subst_held : AreHeldPieces vs (ps ++ Value a ∷ []) → AreHeldPieces vs qs
        subst_held k = rw q k

    pub wrote_o : (a : ℕ) (qs : List Piece) → value vs of ≡ o (value vs a) → a < length vs →
        new ≡ old ++ codes "o." → qs ≡ ps ++ Value a ∷ [] → Writes vs before old qs new
    wrote_o a qs e h t q = one (codes "o.") (o (value vs a)) a qs e refl refl h t q

    pub wrote_star : (a : ℕ) (qs : List Piece) → value vs of ≡ star (value vs a) → a < length vs →
        new ≡ old ++ codes "*." → qs ≡ ps ++ Value a ∷ [] → Writes vs before old qs new
    wrote_star a qs e h t q = one (codes "*.") (star (value vs a)) a qs e refl refl h t q

    pub wrote_pair : (a b : ℕ) (q1 q2 q3 qs : List Piece) → value vs of ≡ pair (value vs a) (value vs b) →
        (a < length vs) × (b < length vs) → new ≡ old ++ codes "<" → q1 ≡ ps ++ Close ∷ [] →
        q2 ≡ q1 ++ Value b ∷ [] → q3 ≡ q2 ++ Comma ∷ [] → qs ≡ q3 ++ Value a ∷ [] →
        Writes vs before old qs new
    wrote_pair a b q1 q2 q3 qs e h t i j k l = record {
      written = ap (λ x. x ++ pieces_text vs qs) t ∙ ap (λ x. (old ++ codes "<") ++ x) after
          ∙ five old (codes "<") (level_text (value vs a)) (codes ",") (level_text (value vs b)) (codes ">") rest
          ∙ ap (λ x. old ++ (x ++ rest)) (sym (ap level_text e))
          ∙ ap (λ x. old ++ x) (sym (pieces_push vs ps (Value of)));
      held = rw l (held_push vs q3 (Value a) (rw k (held_push vs q2 Comma
          (rw j (held_push vs q1 (Value b) (rw i (held_push vs ps Close hs tt)) h.1)) tt)) h.0);
      fewer =
          let s : pieces_size vs before ≡ level_size (value vs of) + pieces_size vs ps = size_push vs ps (Value of) in
          let n : level_size (value vs of) ≡ 4 + level_size (value vs a) + level_size (value vs b) = ap level_size e in
          let s1 : pieces_size vs q1 ≡ 1 + pieces_size vs ps = ap (pieces_size vs) i ∙ size_push vs ps Close in
          let s2 : pieces_size vs q2 ≡ level_size (value vs b) + pieces_size vs q1 =
          ap (pieces_size vs) j ∙ size_push vs q1 (Value b) in
          let s3 : pieces_size vs q3 ≡ 1 + pieces_size vs q2 = ap (pieces_size vs) k ∙ size_push vs q2 Comma in
          let s4 : pieces_size vs qs ≡ level_size (value vs a) + pieces_size vs q3 =
          ap (pieces_size vs) l ∙ size_push vs q3 (Value a) in
          omega arith;
    }
      where
        after : pieces_text vs qs ≡ level_text (value vs a)
            ++ (codes "," ++ (level_text (value vs b) ++ (codes ">" ++ rest)))
        after = ap (pieces_text vs) l ∙ pieces_push vs q3 (Value a)
            ∙ ap (λ x. level_text (value vs a) ++ x) (ap (pieces_text vs) k ∙ pieces_push vs q2 Comma
            ∙ ap (λ x. codes "," ++ x) (ap (pieces_text vs) j ∙ pieces_push vs q1 (Value b)
            ∙ ap (λ x. level_text (value vs b) ++ x) (ap (pieces_text vs) i ∙ pieces_push vs ps Close)))

-- the pieces of a whole value, one after another
pub first_piece : (vs : List Level) (of : ℕ) → of < length vs → (old : List ℕ) (none ps : List Piece) → none ≡ [] →
    ps ≡ none ++ Value of ∷ [] → (old ++ pieces_text vs ps ≡ old ++ level_text (value vs of)) × AreHeldPieces vs ps
first_piece vs of h old none ps n e = rw (e, n) (refl, (h, tt))

pub one_piece : (vs : List Level) (all ps : List Piece) (p : Piece) (old : List ℕ) (qs : List Piece) (new text : List ℕ) →
    all ≡ ps ++ p ∷ [] → Writes vs (ps ++ p ∷ []) old qs new → old ++ pieces_text vs all ≡ text →
    (new ++ pieces_text vs qs ≡ text) × AreHeldPieces vs qs
one_piece vs all ps p old qs new text e w t =
    (w.written ∙ ap (λ (x : List Piece). old ++ pieces_text vs x) (sym e) ∙ t, w.held)

pub fewer_pieces : (vs : List Level) (all ps : List Piece) (p : Piece) (old : List ℕ) (qs : List Piece) (new : List ℕ) →
    all ≡ ps ++ p ∷ [] → Writes vs (ps ++ p ∷ []) old qs new → pieces_size vs qs < pieces_size vs all
fewer_pieces vs all ps p old qs new e w = let b = w.fewer in let s = ap (pieces_size vs) e in omega arith

pub all_written : (vs : List Level) (ps : List Piece) (new text : List ℕ) → length ps ≡ 0 → new ++ pieces_text vs ps ≡ text →
    new ≡ text
all_written vs [] new text e t = sym (append-nil new) ∙ t
all_written vs (p ∷ ps) new text e t = absurd (omega arith)
