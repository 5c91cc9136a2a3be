-- A search from its first turn to its end: the slices hold what the rule says.
use Rattle.std.proofs.Common.{ℕ, ◌<◌, ◌≡◌, refl, sym, ap, ◌∙◌, subst, Bool, false, List, [], ◌∷◌, arith, length, get_or, set, drop}
use Rattle.std.proofs.Common.{length-set, get_or-set_same, drop-set-lt}
use mathlib.Core.List.Memᴰ
use Rattle.graph.specs.Lists.{Mem}
use Rattle.graph.specs.Matchings.{Row, Col, Pattern, partner}
use Rattle.graph.specs.Paths.{Ending, failed, found}
use Rattle.graph.proofs.Paths.{length-augment, unwind, unwind_is, path_once, path_rows, path_free}
use Rattle.graph.proofs.Search.{Visit, visit_found}
use Rattle.matching.specs.Matching.{search}
use Rattle.matching.specs.Work.{holding, SameWork}
use Rattle.matching.specs.declared.search.SearchWork.{SearchWork}
use Rattle.matching.specs.Search.{Cheap, is_found, moved, stamped, SearchReady, SearchEnds}
use Rattle.matching.proofs.Searching.{search_visits}
use Rattle.matching.proofs.Stamps.{set_keeps, kept_start, length-stamped, drop-stamped}
use Rattle.matching.proofs.Stack.{Goal, Into}
use Rattle.matching.proofs.Walk.{Stage, entering, failing, finding, Failing, Finding, Walk, Slices}

-- where the search from column c is to lead
abbrev pub goal_of : ℕ → Pattern → List Col → Col → Goal
goal_of n col m c = record {
  n = n;
  col = col;
  m = m;
  start = c;
  visited = (search n col m n [] c).visited;
  ending = (search n col m n [] c).ending;
}

-- ---- the start

-- the first turn starts with column c on the stack
pub walk_start : {n : ℕ} {col : Pattern} {m : List Col} {c : Col} {mark : ℕ} {w : SearchWork}
    → SearchReady n col m c mark w → let cs = set w.scol.now 0 c in
    Walk (goal_of n col m c) mark w.visited.now w.cheap.now cs w.sat.now w.visited.now w.cheap.now cs w.sat.now m false 1
walk_start {n} {col} {m} {c} {mark} {w} R =
    let g = goal_of n col m c in
    let cs' = set w.scol.now 0 c in
    let top : get_or cs' 0 0 ≡ c = get_or-set_same w.scol.now 0 c 0 (omega (arith, R.below, R.cols_long)) in
    record {
      s = [];
      slices = record {
        setting = record { inside = R.inside; long = R.matching_long; stamps_long = R.stamps_long; unstamped = R.unstamped };
        stamps = refl;
        once = tt;
        below = λ x i. absurd (Memᴰ.not-nil i);
        sound = R.sound;
        cheap_kept = kept_start n w.cheap.now R.cheap_long;
        cols_kept = kept_start n cs' (rw (length-set w.scol.now 0 c) R.cols_long);
        places_kept = kept_start n w.sat.now R.places_long;
        sized = refl;
      };
      stage = entering {k = 0} (record {
        unfound = refl;
        same = refl;
        new = λ i. Memᴰ.not-nil i;
        low = subst (λ x. x < n) (sym top) R.below;
        room = omega arith;
        on = λ i a. absurd (omega arith);
        rest = subst (λ x. Into g cs' w.sat.now 0 x []) (sym top) (
          g.visited,
          g.ending,
          search_visits n col m c R.below,
          (
            refl,
            refl,
            refl,
          ),
        );
      });
    }

-- the same where the stack's first column stands for c, which is all that the loop knows
pub walk_begin : {n : ℕ} {col : Pattern} {m : List Col} {c : Col} {mark : ℕ} {w : SearchWork} {cs : List Col}
    → SearchReady n col m c mark w → cs ≡ set w.scol.now 0 c
    → Walk (goal_of n col m (get_or cs 0 0)) mark w.visited.now w.cheap.now cs w.sat.now w.visited.now w.cheap.now cs w.sat.now m false 1
walk_begin {n} {col} {m} {c} {mark} {w} R e =
    let v = w.visited.now in
    let h = w.cheap.now in
    let cs = set w.scol.now 0 c in
    let ps = w.sat.now in
    let top : get_or cs 0 0 ≡ c = get_or-set_same w.scol.now 0 c 0 (omega (arith, R.below, R.cols_long)) in
    rw e (subst (λ x. Walk (goal_of n col m x) mark v h cs ps v h cs ps m false 1) (sym top) (walk_start R))

-- ---- the end

-- a matched row stays matched when the matching is moved along a path
unwind_stays : (n : ℕ) (m : List Col) (p : List Row) (c : Col) (e : Row) → c < n → ((r : Row) → Mem r p → partner m r < n)
    → (x : Row) → partner m x < n → partner (unwind m c p e) x < n
unwind_stays n m [] c e l low x h = set_keeps (λ y. y < n) m e c x l h
unwind_stays n m (r ∷ p) c e l low x h =
    set_keeps (λ y. y < n) (unwind m (partner m r) p e) r c x l
    (unwind_stays n m p (partner m r) e (low r (Memᴰ.head refl)) (λ q i. low q (Memᴰ.tail i)) x h)

-- with the stack empty, the slices hold the rule's answer
walk_end : {n : ℕ} {col : Pattern} {m : List Col} {c : Col} {mark : ℕ} {cs₀ ps₀ v h cs ps r : List ℕ} {hit : Bool} (w : SearchWork)
    → c < n → Walk (goal_of n col m c) mark w.visited.now w.cheap.now cs₀ ps₀ v h cs ps r hit 0
    → SearchEnds n col m c mark w (holding w v h cs ps) r hit
walk_end {n} {col} {m} {c} {mark} {cs₀} {ps₀} {v} {h} {cs} {ps} {r} {hit} w l W = go W.stage
  where
    g : Goal
    g = goal_of n col m c

    S : Slices g mark w.visited.now w.cheap.now cs₀ ps₀ W.s v h cs ps r
    S = W.slices

    ends : Type 0
    ends = SearchEnds n col m c mark w (holding w v h cs ps) r hit

    lost : Failing g W.s cs ps r hit 0 → ends
    lost F =
        let R = F.rest in
        record {
          answered = F.unfound ∙ ap is_found R.2;
          matched = F.same ∙ ap (moved m c) R.2;
          visits = S.stamps ∙ ap (λ x. stamped mark x w.visited.now) R.1;
          sound = subst (λ x. Cheap n col x h) (sym F.same) S.sound;
          cheap_beyond = S.cheap_kept.beyond;
        }

    won : Finding g W.s cs ps r hit 0 → ends
    won F =
        let R = F.rest in
        let visit : Visit n col m [] c (search n col m n [] c).visited (found F.path F.last) =
        subst (λ x. Visit n col m [] c (search n col m n [] c).visited x) (sym R.2) (search_visits n col m c l) in
        let P = visit_found S.setting.inside visit in
        let A = P.alternating in
        let same : r ≡ unwind m c F.path F.last = F.same ∙ ap (λ x. unwind m x F.path F.last) R.0 in
        let is = unwind_is F.path m c F.last (path_once A) (path_free A F.last P.ends_free) in
        let stays = unwind_stays n m F.path c F.last l (λ x i. (path_rows A x i).1) in
        record {
          answered = F.is_found_lem ∙ ap is_found R.2;
          matched = same ∙ sym is ∙ ap (moved m c) R.2;
          visits = S.stamps ∙ ap (λ x. stamped mark x w.visited.now) R.1;
          sound = subst (λ x. Cheap n col x h) (sym same) (λ d k i a b. stays (get_or (col d) i 0) (S.sound d k i a b));
          cheap_beyond = S.cheap_kept.beyond;
        }

    go : Stage g W.s cs ps r hit 0 → ends
    go (failing F) = lost F
    go (finding F) = won F

-- the same as the loop knows it, and each slice stays
pub walk_done : {n : ℕ} {col : Pattern} {m : List Col} {c : Col} {mark : ℕ} {w : SearchWork} {cs₀ v h cs ps r : List ℕ} {hit : Bool}
    {d : ℕ} → SearchReady n col m c mark w → cs₀ ≡ set w.scol.now 0 c → d ≡ 0
    → Walk (goal_of n col m (get_or cs₀ 0 0)) mark w.visited.now w.cheap.now cs₀ w.sat.now v h cs ps r hit d
    → SearchEnds n col m c mark w (holding w v h cs ps) r hit × SameWork n w (holding w v h cs ps)
walk_done {n} {col} {m} {c} {mark} {w} {cs₀} {v} {h} {cs} {ps} {r} {hit} {d} R e z W =
    let v₀ = w.visited.now in
    let h₀ = w.cheap.now in
    let top : get_or (set w.scol.now 0 c) 0 0 ≡ c = get_or-set_same w.scol.now 0 c 0 (omega (arith, R.below, R.cols_long)) in
    let start : get_or cs₀ 0 0 ≡ c = ap (λ x. get_or x 0 0) e ∙ top in
    let W' : Walk (goal_of n col m c) mark v₀ h₀ cs₀ w.sat.now v h cs ps r hit 0 =
    subst (λ x. Walk (goal_of n col m c) mark v₀ h₀ cs₀ w.sat.now v h cs ps r hit x) z
    (subst (λ x. Walk (goal_of n col m x) mark v₀ h₀ cs₀ w.sat.now v h cs ps r hit d) start W) in
    let S = W.slices in
    let low : 0 < n = omega (arith, R.below) in (
      walk_end w R.below W',
      record {
        slices = refl;
        visited = record {
          same_length = ap length S.stamps ∙ length-stamped mark W.s v₀;
          beyond = ap (drop n) S.stamps ∙ drop-stamped n mark W.s v₀ S.below;
        };
        cheap = record { same_length = S.cheap_kept.same_length; beyond = S.cheap_kept.beyond };
        cols = record {
          same_length = S.cols_kept.same_length ∙ ap length e ∙ length-set w.scol.now 0 c;
          beyond = S.cols_kept.beyond ∙ ap (drop n) e ∙ drop-set-lt n w.scol.now 0 c low;
        };
        places = record { same_length = S.places_kept.same_length; beyond = S.places_kept.beyond };
      },
    )

-- the matching keeps its length
pub length_moved : (m : List Col) (c : Col) (o : Ending) → length (moved m c o) ≡ length m
length_moved m c failed = refl
length_moved m c (found p e) = length-augment p m c e
