-- What is found of each text that begins with what was fed.
use Rattle.std.proofs.Common.{◌≡◌, ◌≢◌, ℕ, suc, ◌+◌, ◌<◌, ◌≤◌, List, [], ◌∷◌, ◌++◌, append_assoc, length}
use Rattle.std.proofs.Common.{length-append, drop, Option, None, Some, refl, sym, ap, ◌∙◌, subst, arith}
use Rattle.std.proofs.Common.{Vec, Global, get_or, take, true, false, ◌==◌, eqb-true, vec_len, rules}
use Rattle.std.specs.Option.{is_some}
use Rattle.std.proofs.lemmas.List.{append-nil, drop_at, take-append-drop, take_more}
use Rattle.std.specs.Prelude.{IfSome, IfNone, IsSomeAnd}
use Rattle.ol_net.specs.Graph.{Graph}
use Rattle.ol_net.specs.Nets.{NamedNet, IsNet, net_under}
use Rattle.ol_net.specs.Numbered.{net_of}
use Rattle.ol_net.specs.Pairs.{IsComplete, HasActive}
use Rattle.ol_rules.specs.declared.journal.NodeName.{NodeName}
use Rattle.ol_rules.specs.declared.journal.Entry.{Entry}
use Rattle.ol_diamond.specs.declared.weighing.Rewritten.{Rewritten}
use Rattle.ol_diamond.specs.PortWeights.{WeighsEntry}
use Rattle.ol_diamond.specs.Replaying.{AreIdleNumbers}
use Rattle.ol_view.specs.declared.answers.Check.{Check}
use Rattle.ol_view.specs.declared.answers.Check.TheVariants.{Complete, Run, BadText, NotARun}
use Rattle.ol_view.specs.declared.forms.Form.{Form}
use Rattle.ol_view.specs.declared.forms.Form.TheVariants.{One, Two}
use Rattle.ol_view.specs.declared.line_reading.Line.{Line}
use Rattle.ol_view.specs.declared.feeding.Checker.{Checker}
use Rattle.ol_view.specs.Forms.{header_of, line_of, BeginsWithEntry}
use Rattle.ol_view.specs.LineReading.{front_entry, TellsOf}
use Rattle.ol_view.specs.Checks.{start_net_of_graph, BeginsWithRun, HasNoLine, IsFound, OnlyIsFound}
use Rattle.ol_view.specs.Standing.{BeginsWithTold}
use Rattle.ol_view.specs.Feeding.{IsFixed, HasNoFeed, IsOpenLine, IsWholeLine, IsCopied, AreReplayed}
use Rattle.ol_view.specs.Feeding.{first, then, AreLinesReplayed, IsReplayedTo, IsFed, IsRunSoFar, behind_run, bad_at}
use Rattle.ol_view.proofs.AtPlaces.{line_is_read}
use Rattle.ol_view.proofs.Entries.{Read, none_read}
use Rattle.ol_view.proofs.Finding as finding
use Rattle.ol_view.proofs.Finding.{UnderWay, under_way}
use Rattle.ol_view.proofs.FoundCases.{found_of, no_header}
use Rattle.ol_view.proofs.OneFound.{exact}
use Rattle.ol_view.proofs.WholeLines.{IsOneLine, one_feed, before_feed, header_is_line, entry_is_line, no_feed_append}

-- ---- a line and what is behind it

-- a whole line is the one that the text begins with
cut_whole : (line more w rest : List ℕ) (k : ℕ) → IsWholeLine line → IsOneLine k w →
    line ++ more ≡ w ++ rest → (line ≡ w) × (more ≡ rest)
cut_whole line more w rest k h i e =
    let s = one_feed h.body i.body more rest h.plain i.no_feed
    (sym (ap (λ bs. bs ++ more) h.ended ∙ append_assoc h.body (10 ∷ []) more) ∙ e
    ∙ ap (λ bs. bs ++ rest) i.is ∙ append_assoc i.body (10 ∷ []) rest) in
    (h.ended ∙ ap (λ bs. bs ++ 10 ∷ []) s.0 ∙ sym i.is, s.1)

-- what has no line feed isn't longer than the line
cut_open : (line more w rest : List ℕ) (k : ℕ) → HasNoFeed line → (i : IsOneLine k w) →
    line ++ more ≡ w ++ rest → length line ≤ length i.body
cut_open line more w rest k h i e = before_feed line i.body more rest h
    (e ∙ ap (λ bs. bs ++ rest) i.is ∙ append_assoc i.body (10 ∷ []) rest)

-- and it isn't all of it
never_open : (line w rest : List ℕ) (k : ℕ) → HasNoFeed line → IsOneLine k w → line ≡ w ++ rest → ⊥
never_open line w rest k h i e =
    let l = cut_open line [] w rest k h i (append-nil line ∙ e) in
    let s = ap length (e ∙ ap (λ bs. bs ++ rest) i.is ∙ append_assoc i.body (10 ∷ []) rest) in
    omega (arith, length-append i.body (10 ∷ rest))

line_of_entry : (form : Form) (text : List ℕ) (e : Entry) (wave : ℕ) (rest : List ℕ) →
    BeginsWithEntry form text e wave rest → IsOneLine 52 (line_of form e wave)
line_of_entry form text e wave rest h = entry_is_line form e wave h.wave_may h.names_may

-- a whole line that is none of the grammar, whatever follows
pub whole_none : (form : Form) (line : List ℕ) → IsWholeLine line → HasNoLine form line →
    (more : List ℕ) → HasNoLine form (line ++ more)
whole_none form line h none more e wave rest b =
    let s = cut_whole line more (line_of form e wave) rest 52 h
    (line_of_entry form (line ++ more) e wave rest b) b.begins in
    none e wave [] (record {
      begins = s.0 ∙ sym (append-nil (line_of form e wave));
      wave_may = b.wave_may;
      names_may = b.names_may;
      ordered = b.ordered;
    })

-- more than 52 bytes without a line feed
pub long_none : (form : Form) (line : List ℕ) → HasNoFeed line → 52 < length line →
    (more : List ℕ) → HasNoLine form (line ++ more)
long_none form line h l more e wave rest b =
    let i = line_of_entry form (line ++ more) e wave rest b in
    let s = cut_open line more (line_of form e wave) rest 52 h i b.begins in
    let k = i.short in omega arith

-- a line that isn't ended
pub open_none : (form : Form) (line : List ℕ) → HasNoFeed line → HasNoLine form line
open_none form line h e wave rest b = never_open line (line_of form e wave) rest 52 h
    (line_of_entry form line e wave rest b) b.begins

-- the same of the first line
pub whole_header : (line : List ℕ) → IsWholeLine line →
    ((form : Form) (rest : List ℕ) → line ≢ header_of form ++ rest) → (more : List ℕ) (form : Form)
    (rest : List ℕ) → line ++ more ≢ header_of form ++ rest
whole_header line h none more form rest e =
    let s = cut_whole line more (header_of form) rest 10 h (header_is_line form) e in
    none form [] (s.0 ∙ sym (append-nil (header_of form)))

pub long_header : (line : List ℕ) → HasNoFeed line → 52 < length line → (more : List ℕ) (form : Form)
    (rest : List ℕ) → line ++ more ≢ header_of form ++ rest
long_header line h l more form rest e =
    let i = header_is_line form in
    let s = cut_open line more (header_of form) rest 10 h i e in
    let k = i.short in omega arith

pub open_header : (line : List ℕ) → HasNoFeed line → (form : Form) (rest : List ℕ) → line ≢ header_of form ++ rest
open_header line h form rest e = never_open line (header_of form) rest 10 h (header_is_line form) e

-- a line that is told stands there, whatever follows
told_longer : (form : Form) (text : List ℕ) (told : Line) (rest more : List ℕ) →
    BeginsWithTold form text told rest → BeginsWithTold form (text ++ more) told (rest ++ more)
told_longer form text told rest more h = record {
  entry = h.entry;
  wave = h.wave;
  begins = record {
    begins = ap (λ bs. bs ++ more) h.begins.begins ∙ append_assoc (line_of form h.entry h.wave) rest more;
    wave_may = h.begins.wave_may;
    names_may = h.begins.names_may;
    ordered = h.begins.ordered;
  };
  told = h.told;
  first = h.first;
  second = h.second;
}

-- nothing is behind it in a whole line
pub nothing_behind : (form : Form) (line : List ℕ) (told : Line) (rest : List ℕ) → IsWholeLine line →
    BeginsWithTold form line told rest → rest ≡ []
nothing_behind form line told rest h b = sym (cut_whole line [] (line_of form b.entry b.wave) rest 52 h
    (line_of_entry form line b.entry b.wave rest b.begins) (append-nil line ∙ b.begins.begins)).1

-- ---- lines that were replayed

pub header_long : (form : Form) → length (header_of form) ≡ 11
header_long One = refl
header_long Two = refl

-- their run, in each text that begins with them
pub replayed_way : (form : Form) (net : Graph) (lines : List ℕ) (n : ℕ) (g : Graph) (bases weights : List ℕ) →
    IsNet (net_of net) → AreReplayed form net lines n g bases weights → n ≤ 8000000 →
    (more : List ℕ) → UnderWay form net (lines ++ more) g bases weights n (length lines)
replayed_way form net lines n g bases weights is_net (first c) l more =
    let begins : header_of form ++ more ≡ header_of form ++ drop 11 (header_of form ++ more) = sym
    (ap (λ bs. header_of form ++ bs) (drop_at (header_of form) more 11 (header_long form))) in
    subst (λ at. UnderWay form net (header_of form ++ more) g bases weights 0 at) (sym (header_long form))
    (subst (λ g. UnderWay form net (header_of form ++ more) g bases weights 0 11) (sym c.same)
    (subst (λ bases. UnderWay form net (header_of form ++ more) net bases weights 0 11) (sym c.numbers)
    (under_way form net (header_of form ++ more) weights is_net begins c.sized c.weightless)))
replayed_way form net lines' n' g' bases' weights' is_net
    (then {lines} {line} {n} {g = g} {bases = bases} {weights = weights} told rule wave before b tells x) l more =
    let text : List ℕ = lines ++ (line ++ more) in
    let u : UnderWay form net text g bases weights n (length lines) =
    replayed_way form net lines n g bases weights is_net before (omega arith) (line ++ more) in
    let d : n ≢ 8000000 = λ q. omega arith in
    let here : drop (length lines) text ≡ line ++ more = drop_at lines (line ++ more) (length lines) refl in
    let e : ◌≡◌ {A = Read} (front_entry form (drop (length lines) text))
    (Some (told.told, told.first, told.second, more)) =
    ap (λ bs. front_entry form bs) here
    ∙ line_is_read form (line ++ more) told more (told_longer form line told [] more b) in
    let same : text ≡ (lines ++ line) ++ more = sym (append_assoc lines line more) in
    let behind : more ≡ drop (length (lines ++ line)) text =
    sym (drop_at (lines ++ line) more (length (lines ++ line)) refl)
    ∙ ap (λ bs. drop (length (lines ++ line)) bs) (sym same) in
    let q : n + 1 ≡ suc n = omega arith in
    subst (λ bs. UnderWay form net bs g' bases' weights' (suc n) (length (lines ++ line))) same
    (subst (λ k. UnderWay form net text g' bases' weights' k (length (lines ++ line))) q
    (finding.one_more form net text g bases weights n (length lines) u told.told told.first told.second more d e
    g' bases' weights' rule wave x (length (lines ++ line)) behind tells))

-- ---- what is fixed

module _ (net : Graph) (text : List ℕ) (c : Checker) (r : IsReplayedTo net text c) where
  abbrev start : NamedNet NodeName
  start = start_net_of_graph net

  abbrev line : List ℕ
  line = c.line.items

  -- what is found of each text that begins so
  pub fixed : (check : Check) → ((more : List ℕ) → IsFound start (text ++ more) check) → IsFixed start text check
  fixed check h more = exact net r.is_net r.few (text ++ more) check (h more)

  -- nothing follows
  pub found_now : (check : Check) → IsFound start text check → OnlyIsFound start text check
  found_now check h = exact net r.is_net r.few text check h

  pub parts : (more : List ℕ) → text ++ more ≡ r.lines ++ (line ++ more)
  parts more = ap (λ bs. bs ++ more) r.text_is ∙ append_assoc r.lines line more

  module _ (f : c.form ≡ None) where
    before : AreLinesReplayed None net r.lines c.entries c.replay.net c.replay.numbers.bases.items c.replay.weights.items
    before = subst (λ o. AreLinesReplayed o net r.lines c.entries
        c.replay.net c.replay.numbers.bases.items c.replay.weights.items) f r.replayed

    pub only_line : text ≡ line
    only_line = r.text_is ∙ ap (λ bs. bs ++ line) before.0

    pub bad_first : ((more : List ℕ) (form : Form) (rest : List ℕ) → line ++ more ≢ header_of form ++ rest) →
        IsFixed start text (BadText 1)
    bad_first h = fixed (BadText 1) (λ more. found_of (no_header
        (λ form rest e. h more form rest (ap (λ bs. bs ++ more) (sym only_line) ∙ e))))

    pub bad_first_now : ((form : Form) (rest : List ℕ) → line ≢ header_of form ++ rest) →
        OnlyIsFound start text (BadText 1)
    bad_first_now h = found_now (BadText 1) (found_of (no_header (λ form rest e. h form rest (sym only_line ∙ e))))

    -- the first line is there
    pub first_read : (c' : Checker) (form : Form) (rest : List ℕ) → IsWholeLine line →
        line ≡ header_of form ++ rest → c'.form ≡ Some form → c'.replay ≡ c.replay →
        c'.entries ≡ c.entries → c'.line.items ≡ [] → IsFed net text c'
    first_read c' form rest w e f' same n empty =
        let s = cut_whole line [] (header_of form) rest 10 w (header_is_line form) (append-nil line ∙ e) in
        let is : text ≡ header_of form = only_line ∙ s.0 in
        let copied : IsCopied net c'.replay.net c'.replay.numbers.bases.items c'.replay.weights.items =
        subst (λ x. IsCopied net x.net x.numbers.bases.items x.weights.items) (sym same) before.2 in
        let none : c'.entries ≡ 0 = n ∙ before.1 in
        record {
          lines_read = record {
            is_net = r.is_net;
            few = r.few;
            lines = text;
            text_is = sym (append-nil text) ∙ ap (λ bs. text ++ bs) (sym empty);
            replayed = subst (λ o. AreLinesReplayed o net text c'.entries c'.replay.net c'.replay.numbers.bases.items
                c'.replay.weights.items) (sym f') (subst (λ n. AreReplayed form net text n c'.replay.net
                c'.replay.numbers.bases.items c'.replay.weights.items) (sym none)
                (subst (λ bs. AreReplayed form net bs 0 c'.replay.net c'.replay.numbers.bases.items
                c'.replay.weights.items) (sym is) (first copied)));
            most = rw none (omega arith);
          };
          line_open = rw empty (record { open_yet = tt; short = omega arith });
        }

  module _ (form : Form) (f : c.form ≡ Some form) where
    replayed : AreReplayed form net r.lines c.entries c.replay.net c.replay.numbers.bases.items c.replay.weights.items
    replayed = subst (λ o. AreLinesReplayed o net r.lines c.entries
        c.replay.net c.replay.numbers.bases.items c.replay.weights.items) f r.replayed

    abbrev at : ℕ
    at = length r.lines

    way : (more : List ℕ) → UnderWay form net (text ++ more)
        c.replay.net c.replay.numbers.bases.items c.replay.weights.items c.entries at
    way more = subst (λ bs. UnderWay form net bs
        c.replay.net c.replay.numbers.bases.items c.replay.weights.items c.entries at) (sym (parts more))
        (replayed_way form net r.lines c.entries c.replay.net
        c.replay.numbers.bases.items c.replay.weights.items r.is_net replayed r.most (line ++ more))

    -- the net hasn't grown much
    pub few_nodes : length c.replay.net.nodes ≤ 2000000000
    few_nodes = let w = (way []).few in let l = r.few in let m = r.most in omega arith

    here : (more : List ℕ) → drop at (text ++ more) ≡ line ++ more
    here more = ap (λ bs. drop at bs) (parts more) ∙ drop_at r.lines (line ++ more) at refl

    past : (more : List ℕ) → line ≢ [] → at < length (text ++ more)
    past more h = go line refl
      where
        go : (bs : List ℕ) → line ≡ bs → at < length (text ++ more)
        go [] e = absurd (h e)
        go (b ∷ bs) e =
            let p = ap length (parts more) in let q = length-append r.lines (line ++ more) in
            let s = length-append line more in let t = ap length e in omega arith

    -- the lines that have ended are the trace of a run
    pub run_so_far : IsOpenLine line → IsRunSoFar start text
    run_so_far o =
        let w = way [] in
        let last : NamedNet NodeName = net_under w.m (net_of c.replay.net) in
        let b : BeginsWithRun form start (text ++ []) w.journal w.waves last (drop at (text ++ [])) =
        finding.begins_here form net (text ++ []) c.replay.net c.replay.numbers.bases.items c.replay.weights.items
        c.entries at w in
        behind_run (subst (λ bs. BeginsWithRun form start bs w.journal w.waves last line) (append-nil text)
        (subst (λ rest. BeginsWithRun form start (text ++ []) w.journal w.waves last rest)
        (here [] ∙ append-nil line) b)) o

    no_line_at : (more : List ℕ) → line ≢ [] → HasNoLine form (line ++ more) →
        IsFound start (text ++ more) (BadText (c.entries + 2))
    no_line_at more some h = finding.no_line form net (text ++ more)
        c.replay.net c.replay.numbers.bases.items c.replay.weights.items c.entries at (way more) (past more some)
        (none_read form (drop at (text ++ more)) (subst (λ bs. HasNoLine form bs) (sym (here more)) h))

    pub no_line : line ≢ [] → ((more : List ℕ) → HasNoLine form (line ++ more)) →
        IsFixed start text (BadText (c.entries + 2))
    no_line some h = fixed (BadText (c.entries + 2)) (λ more. no_line_at more some (h more))

    pub no_line_now : line ≢ [] → HasNoLine form line → OnlyIsFound start text (BadText (c.entries + 2))
    no_line_now some h = found_now (BadText (c.entries + 2))
        (subst (λ bs. IsFound start bs (BadText (c.entries + 2))) (append-nil text)
        (no_line_at [] some (subst (λ bs. HasNoLine form bs) (sym (append-nil line)) h)))

    pub too_many : line ≢ [] → c.entries ≡ 8000000 → IsFixed start text (BadText (c.entries + 2))
    too_many some e = fixed (BadText (c.entries + 2)) (λ more. finding.full form net (text ++ more)
        c.replay.net c.replay.numbers.bases.items c.replay.weights.items c.entries at (way more) e (past more some))

    at_end : line ≡ [] → length (text ++ []) ≤ at
    at_end e =
        let p = ap length (parts []) in let q = length-append r.lines (line ++ []) in
        let s = length-append line [] in let t = ap length e in omega arith

    pub complete_now : line ≡ [] → IsComplete (net_of c.replay.net) → OnlyIsFound start text Complete
    complete_now e h = found_now Complete (subst (λ bs. IsFound start bs Complete) (append-nil text)
        (finding.ends_complete form net (text ++ []) c.replay.net
        c.replay.numbers.bases.items c.replay.weights.items c.entries at (way []) (at_end e) h))

    pub run_now : line ≡ [] → HasActive (net_of c.replay.net) → OnlyIsFound start text (Run c.entries)
    run_now e h = found_now (Run c.entries) (subst (λ bs. IsFound start bs (Run c.entries)) (append-nil text)
        (finding.ends_active form net (text ++ []) c.replay.net
        c.replay.numbers.bases.items c.replay.weights.items c.entries at (way []) (at_end e) h))

    module _ (told : Line) (rest : List ℕ) (b : BeginsWithTold form line told rest) (d : c.entries ≢ 8000000) where
      there : (more : List ℕ) → ◌≡◌ {A = Read} (front_entry form (drop at (text ++ more)))
          (Some (told.told, told.first, told.second, rest ++ more))
      there more = ap (λ bs. front_entry form bs) (here more)
          ∙ line_is_read form (line ++ more) told (rest ++ more) (told_longer form line told rest more b)

      -- the line isn't so
      pub otherwise : (made : Option Rewritten) (g' : Graph) (bases' weights' : List ℕ) →
          IfNone made (AreIdleNumbers c.replay.net c.replay.numbers.bases.items told.first told.second) →
          IfSome made (λ of. WeighsEntry c.replay.net g' c.replay.numbers.bases.items bases'
          c.replay.weights.items weights'
          (record { rule = of.rule; first = told.first; second = told.second }) of.wave) →
          IfSome made (λ of. TellsOf told.told of.rule of.wave → ⊥) →
          IsFixed start text (NotARun (c.entries + 2))
      otherwise made g' bases' weights' idle x wrong = fixed (NotARun (c.entries + 2)) (λ more.
          finding.tried form net (text ++ more) c.replay.net c.replay.numbers.bases.items c.replay.weights.items
          c.entries at (way more) told.told told.first told.second (rest ++ more) d (there more)
          made g' bases' weights' idle x wrong)

      -- the line is so
      pub one_more : IsWholeLine line → (made : Option Rewritten) (c' : Checker) →
          IfSome made (λ of. WeighsEntry c.replay.net c'.replay.net
          c.replay.numbers.bases.items c'.replay.numbers.bases.items
          c.replay.weights.items c'.replay.weights.items
          (record { rule = of.rule; first = told.first; second = told.second }) of.wave) →
          IsSomeAnd made (λ of. TellsOf told.told of.rule of.wave) → c'.form ≡ Some form →
          c'.entries ≡ c.entries + 1 → c'.line.items ≡ [] → IsFed net text c'
      one_more w None c' x so f' n empty = absurd so
      one_more w (Some of) c' x so f' n empty =
          let q : suc c.entries ≡ c'.entries = omega arith in
          let b' : BeginsWithTold form line told [] = subst (λ rest. BeginsWithTold form line told rest)
          (nothing_behind form line told rest w b) b in
          let on : AreReplayed form net (r.lines ++ line) (suc c.entries) c'.replay.net
          c'.replay.numbers.bases.items c'.replay.weights.items =
          then told of.rule of.wave replayed b' so x in
          record {
            lines_read = record {
              is_net = r.is_net;
              few = r.few;
              lines = text;
              text_is = sym (append-nil text) ∙ ap (λ bs. text ++ bs) (sym empty);
              replayed = subst (λ o. AreLinesReplayed o net text c'.entries c'.replay.net c'.replay.numbers.bases.items
                  c'.replay.weights.items) (sym f') (subst (λ n. AreReplayed form net text n c'.replay.net
                  c'.replay.numbers.bases.items c'.replay.weights.items) q
                  (subst (λ bs. AreReplayed form net bs (suc c.entries) c'.replay.net
                  c'.replay.numbers.bases.items c'.replay.weights.items) (sym r.text_is) on));
              most = let l = r.most in omega arith;
            };
            line_open = rw empty (record { open_yet = tt; short = omega arith });
          }

-- ---- one byte more

some_there : (xs : List ℕ) (b : ℕ) → xs ++ b ∷ [] ≢ []
some_there xs b e = let q = ap length e in omega (arith, length-append xs (b ∷ []))

-- the same with this line
abbrev pub with_line : Checker → Vec ℕ Global → Checker
with_line c longer = record { form = c.form; replay = c.replay; entries = c.entries; line = longer }

-- the line grows by a byte
pub byte_read : (net : Graph) (text : List ℕ) (c : Checker) (longer : Vec ℕ Global) (byte : ℕ) →
    IsReplayedTo net text c → longer.items ≡ c.line.items ++ byte ∷ [] →
    IsReplayedTo net (text ++ byte ∷ []) (with_line c longer)
byte_read net text c longer byte r is = record {
  is_net = r.is_net;
  few = r.few;
  lines = r.lines;
  text_is = ap (λ bs. bs ++ byte ∷ []) r.text_is ∙ append_assoc r.lines c.line.items (byte ∷ [])
      ∙ ap (λ bs. r.lines ++ bs) (sym is);
  replayed = r.replayed;
  most = r.most;
}

-- no line feed comes
pub still_open : (line : List ℕ) (byte : ℕ) → HasNoFeed line → byte ≢ 10 → HasNoFeed (line ++ byte ∷ [])
still_open line byte h n = no_feed_append line (byte ∷ []) h (n, tt)

-- the line is ended
pub is_ended : (line : List ℕ) → HasNoFeed line → IsWholeLine (line ++ 10 ∷ [])
is_ended line h = record { body = line; ended = refl; plain = h }

-- the line that has come isn't one of the grammar, by its length
pub bad_by_length : (net : Graph) (text : List ℕ) (c : Checker) → IsReplayedTo net text c → HasNoFeed c.line.items →
    52 < length c.line.items → IsFixed (start_net_of_graph net) text (bad_at c.form c.entries)
bad_by_length net text c r open_yet l = go c.form refl
  where
    some : c.line.items ≢ []
    some e = let q = ap length e in omega arith

    go : (o : Option Form) → c.form ≡ o → IsFixed (start_net_of_graph net) text (bad_at o c.entries)
    go None f = bad_first net text c r f (λ more form rest. long_header c.line.items open_yet l more form rest)
    go (Some form) f = no_line net text c r form f some (λ more. long_none form c.line.items open_yet l more)

-- nothing follows, and a line is open
pub bad_at_end : (net : Graph) (text : List ℕ) (c : Checker) (check : Check) → IsFed net text c →
    (is_some c.form ≡ true → c.line.items ≢ []) → check ≡ bad_at c.form c.entries →
    OnlyIsFound (start_net_of_graph net) text check
bad_at_end net text c check r some e = subst (λ check. OnlyIsFound (start_net_of_graph net) text check) (sym e)
    (go c.form refl)
  where
    go : (o : Option Form) → c.form ≡ o → OnlyIsFound (start_net_of_graph net) text (bad_at o c.entries)
    go None f = bad_first_now net text c r.lines_read f (λ form rest. open_header c.line.items r.line_open.open_yet form rest)
    go (Some form) f = no_line_now net text c r.lines_read form f (some (ap is_some f))
        (open_none form c.line.items r.line_open.open_yet)

-- there is a byte in it
pub whole_some : (bs : List ℕ) → IsWholeLine bs → bs ≢ []
whole_some bs h e = some_there h.body 10 (sym h.ended ∙ e)

-- ---- pieces

-- the byte at a place comes behind those before it
pub byte_on : (text piece : List ℕ) (at : ℕ) → at < length piece →
    (text ++ take at piece) ++ get_or piece at 0 ∷ [] ≡ text ++ take (at + 1) piece
byte_on text piece at l = append_assoc text (take at piece) (get_or piece at 0 ∷ [])
    ∙ ap (λ bs. text ++ bs) (sym (take_more piece at 0 l))

-- what is fixed by a front is by the whole piece
pub fixed_longer : (start : NamedNet NodeName) (front more : List ℕ) (check : Check) →
    IsFixed start front check → IsFixed start (front ++ more) check
fixed_longer start front more check h rest = subst (λ bs. OnlyIsFound start bs check)
    (sym (append_assoc front more rest)) (h (more ++ rest))

pub fixed_within : (start : NamedNet NodeName) (text piece : List ℕ) (at : ℕ) (check : Check) →
    IsFixed start (text ++ take at piece) check → IsFixed start (text ++ piece) check
fixed_within start text piece at check h = subst (λ bs. IsFixed start bs check)
    (append_assoc text (take at piece) (drop at piece)
    ∙ ap (λ bs. text ++ bs) (take-append-drop at piece))
    (fixed_longer start (text ++ take at piece) (drop at piece) check h)

-- ---- the end

-- there is a byte, or none
pub not_empty : (v : Vec ℕ Global) → false ≡ (vec_len v == 0) → v.items ≢ []
not_empty v h e =
    let made : vec_len v ≡ length v.items = search rules in
    let n : vec_len v ≡ 0 = made ∙ ap length e in
    let q : false ≡ true = h ∙ ap (λ n. n == 0) n in cc

pub empty_now : (v : Vec ℕ Global) → true ≡ (vec_len v == 0) → v.items ≡ []
empty_now v h = go v.items (sym made ∙ eqb-true (vec_len v) 0 (sym h))
  where
    made : vec_len v ≡ length v.items
    made = search rules

    go : (bs : List ℕ) → length bs ≡ 0 → bs ≡ []
    go [] e = refl
    go (b ∷ bs) e = absurd (omega arith)

-- nothing follows, and no line is open
pub complete_at_end : (net : Graph) (text : List ℕ) (c : Checker) → IsFed net text c →
    is_some c.form ≡ true → c.line.items ≡ [] → IsComplete (net_of c.replay.net) →
    OnlyIsFound (start_net_of_graph net) text Complete
complete_at_end net text c r some empty h = go c.form refl
  where
    go : (o : Option Form) → c.form ≡ o → OnlyIsFound (start_net_of_graph net) text Complete
    go None f = let q : false ≡ true = subst (λ o. is_some o ≡ true) f some in absurd (cc)
    go (Some form) f = complete_now net text c r.lines_read form f empty h

pub run_at_end : (net : Graph) (text : List ℕ) (c : Checker) → IsFed net text c →
    is_some c.form ≡ true → c.line.items ≡ [] → HasActive (net_of c.replay.net) →
    OnlyIsFound (start_net_of_graph net) text (Run c.entries)
run_at_end net text c r some empty h = go c.form refl
  where
    go : (o : Option Form) → c.form ≡ o → OnlyIsFound (start_net_of_graph net) text (Run c.entries)
    go None f = let q : false ≡ true = subst (λ o. is_some o ≡ true) f some in absurd (cc)
    go (Some form) f = run_now net text c r.lines_read form f empty h

-- what is fixed is found of the text itself
pub found_of_fixed : (start : NamedNet NodeName) (text : List ℕ) (check : Check) →
    IsFixed start text check → IsFound start text check
found_of_fixed start text check h = subst (λ bs. IsFound start bs check) (append-nil text) ((h [] check).0 refl)
