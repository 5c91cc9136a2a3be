-- The edit of a valid matrix: what the search hands on lets the blocks be cut, and both ends hand out the rule's verdict.
use Rattle.std.proofs.Common.{ℕ, ◌+◌, ◌-◌, ◌≤◌, ◌<◌, ◌≡◌, refl, sym, ap, ◌∙◌, List, arith, eqb, length, get_or, take, drop, drop-drop}
use Rattle.std.proofs.Common.{Option, Some, None, Ok, is_some, IsSome}
use Rattle.graph.specs.Counting.{bit}
use Rattle.graph.specs.Lists.{Once, elem, table}
use Rattle.graph.specs.Matchings.{Row, Col, Pattern, Perfect, partner}
use Rattle.graph.specs.Blocks.{targets, blocks}
use Rattle.graph.proofs.Lists.{table_ext}
use Rattle.graph.proofs.Matchings.{perfect_agree}
use Rattle.graph.proofs.Permutations.{permutes}
use Rattle.sparse.specs.Buffers.{zeroed}
use Rattle.sparse.specs.Matrix.{column_or, Shaped}
use Rattle.sparse.specs.Columns.{columns}
use Rattle.sparse.specs.Refusals.{Roomy}
use Rattle.sparse.specs.declared.Column.{Column}
use Rattle.sparse.specs.declared.mat.Edit.{Edit}
use Rattle.sparse.specs.declared.mat.SquareMat.{SquareMat}
use Rattle.sparse.proofs.Buffers.{front_filled}
use Rattle.matching.specs.Matching.{Verdict, accepted, refused}
use Rattle.matching.specs.Outcome.{marks_of}
use Rattle.matching.specs.Parts.{EndsAt, SameBeyond}
use Rattle.matching.specs.Work as searches
use Rattle.matching.specs.Work.{Stays}
use Rattle.matching.specs.declared.search.SearchWork.{SearchWork}
use Rattle.matching.proofs.Ready.{short_or}
use Rattle.matching.proofs.Work.{stays_then}
use Rattle.blocks.specs.Cut.{HoldsBlocks}
use Rattle.blocks.specs.Reverse.{entries, Reversible}
use Rattle.rematching.specs.Checks.{Editable}
use Rattle.rematching.specs.Rematching.{rematching}
use Rattle.std.proofs.lemmas.Option.{none-some}
use Rattle.triangular.specs.Outcome.{Work, work, Outputs, outputs, Lent, lent, work_buffers}
use Rattle.triangular.specs.Outcome.{buffers, ended, unmatchable}
use Rattle.triangular.specs.Parts.{SameWork}
use Rattle.triangular.proofs.Room.{work_room, work_roomy, kept_room}
use Rattle.triangular.proofs.Outcome.{Handed, handed_agree, hand_accepted}
use Rattle.triangular.proofs.Work.{same_then, zeroed_stays}
use Rattle.edit.specs.Outcome.{edit_entries, refused_outputs, handed_out, Given}
use Rattle.edit.proofs.Outcome.{matching_room, given_inside, decides}
use Rattle.edit.proofs.EditedEntries.{replacement_few, entries_roomy, edited_once}

-- ---- what the search hands on

-- where a search did not fail there is a matching, it stands in the slice, and no column is marked
ends_handed : {size : ℕ} {r : Option Column} {m hall : List ℕ} (v : List ℕ) (o : Outputs) (verdict : Verdict)
    → EndsAt size v m r verdict → r ≡ None → size ≤ length m → SameBeyond size o.row2col m → hall ≡ zeroed size o.hall
    → Handed size o verdict m hall
ends_handed {size} {r = None} {m = m} v o (accepted cols) E f long same z = record {
  cols = cols;
  verdict = refl;
  filled_with = front_filled size cols o.row2col m long E same;
  unmarked = z;
}
ends_handed {r = None} v o (refused c seen) E f long same z = absurd E
ends_handed {r = Some d} v o verdict E f long same z = absurd (none-some d (sym f))

-- where it failed, the old matching stays, and the stamps tell the marks
ends_refused : (size : ℕ) {m : List ℕ} (failed : Column) (col : Pattern) (w : Work) (v : List ℕ) (o : Outputs) (verdict : Verdict)
    → EndsAt size v m (Some failed) verdict → m ≡ o.row2col
    → ended (unmatchable failed.0) (lent w (refused_outputs size (table (λ d. bit (eqb (get_or v d 0) (failed.0 + 1))) size)
    (record o { row2col = m }))) ≡ handed_out size col w o verdict
unfolding marks_of
ends_refused size failed col w v o (accepted p) E em = absurd E
ends_refused size failed col w v o (refused c seen) E em =
    let marks : table (λ d. bit (eqb (get_or v d 0) (failed.0 + 1))) size ≡ table (λ d. bit (elem d seen)) size =
    table_ext _ _ size (λ d j. ap bit (ap (λ (x : ℕ). eqb (get_or v d 0) (x + 1)) E.0 ∙ E.2 d j)) in
    rw (em, marks, E.0)

-- ---- the workspace

-- what is not changed stays
unchanged : {n : ℕ} {xs : List ℕ} → Stays n xs xs
unchanged = record { same_length = refl; beyond = refl }

-- where only the stamps, cleared before, and the row of each column change
pub checked_same : {n k : ℕ} (w : Work) {stamps v r : List ℕ} → stamps ≡ zeroed n w.visited → length stamps ≡ length w.visited
    → SameBeyond n stamps v × SameBeyond n w.col2row r → length v ≡ length stamps → length r ≡ length w.col2row
    → SameWork n k w (record w { visited = v; col2row = r })
checked_same w z l beyond vl rl = record {
  visited = stays_then (zeroed_stays z l) (record { same_length = vl; beyond = beyond.0 });
  cheap = unchanged;
  finished = unchanged;
  col2row = record { same_length = rl; beyond = beyond.1 };
  backstarts = unchanged;
  backrows = unchanged;
  cols = unchanged;
  places = unchanged;
}

-- what a search from s to t leaves, once the stamps and cheap places were cleared
pub search_same : {n k : ℕ} (w : Work) {s t : SearchWork} {x : Work} → searches.SameWork n s t
    → s.visited.now ≡ zeroed n w.visited → length s.visited.now ≡ length w.visited
    → s.cheap.now ≡ zeroed n w.cheap → length s.cheap.now ≡ length w.cheap → s.scol.now ≡ w.scol → s.sat.now ≡ w.sat
    → x ≡ work t.visited.now t.cheap.now w.finished w.col2row w.backstarts w.backrows t.scol.now t.sat.now → SameWork n k w x
search_same w S v vl c cl f g e = rw e (record {
  visited = stays_then (zeroed_stays v vl) S.visited;
  cheap = stays_then (zeroed_stays c cl) S.cheap;
  finished = unchanged;
  col2row = unchanged;
  backstarts = unchanged;
  backrows = unchanged;
  cols = rw f at S.cols;
  places = rw g at S.places;
})

-- a slice that stays beyond k stays beyond more
stays_more : {k : ℕ} (j : ℕ) {xs ys : List ℕ} → k ≤ j → Stays k xs ys → Stays j xs ys
stays_more {k} j {xs} {ys} l S =
    let z : k + (j - k) ≡ j = omega arith in
    record {
      same_length = S.same_length;
      beyond = ap (λ (x : ℕ). drop x ys) (sym z) ∙ sym (drop-drop (j - k) k ys) ∙ ap (drop (j - k)) S.beyond ∙ drop-drop (j - k) k xs
          ∙ ap (λ (x : ℕ). drop x xs) z;
    }

-- what stays for k entries stays for more
same_more : {n k : ℕ} {w w' : Work} (j : ℕ) → k ≤ j → SameWork n k w w' → SameWork n j w w'
same_more j l S = record {
  visited = S.visited;
  cheap = S.cheap;
  finished = S.finished;
  col2row = S.col2row;
  backstarts = S.backstarts;
  backrows = stays_more j l S.backrows;
  cols = S.cols;
  places = S.places;
}

-- room for some entries is room for fewer
fewer_room : {n k : ℕ} (j : ℕ) (w : Work) → k ≤ j → Roomy (work_buffers n j w) → Roomy (work_buffers n k w)
fewer_room {n} j w l R =
    let room = work_room n j w R in work_roomy (record {
      visited = room.visited;
      cheap = room.cheap;
      finished = room.finished;
      col2row = room.col2row;
      backstarts = room.backstarts;
      backrows = omega (arith, room.backrows);
      scol = room.scol;
      sat = room.sat;
    })

-- ---- after the search

-- an edit whose search returned r, and left v as stamps and m as the matching
pub record Searched (size : ℕ) (starts : List ℕ) (rows : List Row) (e : Col) (new : List Row) (l : Lent) (r : Option Column)
    (v m : List ℕ) : Type 0 where
  pub given : Given size starts rows e new l
  pub ends : EndsAt size v m r (rematching size (column_or starts rows e new) (take size l.outer.row2col) e)
  pub kept : IsSome r → m ≡ l.outer.row2col
  pub matching : SameBeyond size l.outer.row2col m
  pub matching_length : length m ≡ length l.outer.row2col

pub searched : (mat : SquareMat) (edit : Edit) (l : Lent) {r : Option Column} {v m : List ℕ}
    → ((c : Col) → c < mat.mat.size → Once (columns mat.mat c))
    → Editable mat.mat.size mat.mat.starts.now mat.mat.rows.now edit.column.0 edit.rows.now l.outer.row2col
    → Roomy (buffers mat.mat.size (edit_entries mat.mat.size mat.mat.rows.now) l)
    → EndsAt mat.mat.size v m r (rematching mat.mat.size (column_or mat.mat.starts.now mat.mat.rows.now edit.column.0 edit.rows.now)
    (take mat.mat.size l.outer.row2col) edit.column.0)
    → (IsSome r → m ≡ l.outer.row2col) → SameBeyond mat.mat.size l.outer.row2col m → length m ≡ length l.outer.row2col
    → Searched mat.mat.size mat.mat.starts.now mat.mat.rows.now edit.column.0 edit.rows.now l r v m
searched mat edit l once editable room E k M n = record {
  given = record {
    valid = record { shaped = mat.mat.shaped; below = mat.below; once = once };
    editable = editable;
    room = room;
  };
  ends = E;
  kept = k;
  matching = M;
  matching_length = n;
}

module _ {size : ℕ} {starts : List ℕ} {rows : List Row} {e : Col} {new : List Row} {l : Lent} {r : Option Column} {v m : List ℕ}
    (S : Searched size starts rows e new l r v m) where
  -- the matching is as long as the size
  long : size ≤ length m
  long = omega (arith, S.matching_length, matching_room size (edit_entries size rows) l S.given.room)

  -- it did not fail: the verdict's matching is handed on
  handed : {hall : List ℕ} → r ≡ None → hall ≡ zeroed size l.outer.hall
      → Handed size l.outer (rematching size (column_or starts rows e new) (take size l.outer.row2col) e) m hall
  handed k z = ends_handed v l.outer _ S.ends k long S.matching z

  -- under it the graph of the edited matrix can be reversed
  pub searched_reversible : r ≡ None → Reversible size (column_or starts rows e new) m
  searched_reversible k =
      let H = handed k refl in
      let D = decides S.given in
      let M : Perfect size (column_or starts rows e new) (partner m) =
      perfect_agree (partner m) (D.perfect H.cols H.verdict) (handed_agree D H) in
      record {
        inside = given_inside S.given;
        once = edited_once e new S.given.valid S.given.editable.new_once;
        short = short_or e new S.given.valid.shaped
            (omega (arith, replacement_few S.given.editable, S.given.valid.shaped.small));
        permutes = permutes size m M.inside M.once;
        matching_long = long;
      }

  -- accepted: the blocks cut are handed out
  pub searched_accepted : {hall cols ends : List ℕ} {k : ℕ} → r ≡ None → hall ≡ zeroed size l.outer.hall
      → HoldsBlocks size (blocks size (targets (column_or starts rows e new) m)) l.outer.blockcols
      l.outer.blockstarts cols ends k
      → (w : Work) → ended (Ok k) (lent w (outputs m hall cols ends)) ≡ handed_out size (column_or starts rows e new) w l.outer
      (rematching size (column_or starts rows e new) (take size l.outer.row2col) e)
  searched_accepted j z B w =
      let H = handed j z in
      hand_accepted size (column_or starts rows e new) w l.outer _ m _ _ _ _ (given_inside S.given) (decides S.given) H B
      ∙ rw H.verdict

  -- refused: the old matching, the marks and no blocks are handed out
  pub searched_refused : {failed : Column} {stamps : List ℕ} → r ≡ Some failed → stamps ≡ v → (w : Work)
      → ended (unmatchable failed.0) (lent w (refused_outputs size (table (λ d. bit (eqb (get_or stamps d 0) (failed.0 + 1))) size)
      (record l.outer { row2col = m }))) ≡ handed_out size (column_or starts rows e new) w l.outer
      (rematching size (column_or starts rows e new) (take size l.outer.row2col) e)
  searched_refused {failed} f z w =
      rw z (ends_refused size failed (column_or starts rows e new) w v l.outer
      (rematching size (column_or starts rows e new) (take size l.outer.row2col) e) (rw f at S.ends) (S.kept (ap is_some f)))

module _ {size : ℕ} {starts : List ℕ} {rows : List Row} {e : Col} {new : List Row} {w : Work} (l : Lent)
    (shaped : Shaped size starts rows) (E : Editable size starts rows e new l.outer.row2col)
    (R : Roomy (buffers size (edit_entries size rows) l)) (S : SameWork size (edit_entries size rows) l.inner w) where
  -- a workspace that stays has room for the edited matrix
  pub edited_room : Roomy (work_buffers size (entries size (column_or starts rows e new)) w)
  edited_room = fewer_room (edit_entries size rows) w (entries_roomy shaped E) (kept_room size (edit_entries size rows) l S R)

  -- and stays over the passes, which need no more than there is room for
  pub passed_same : {x : Work} → SameWork size (entries size (column_or starts rows e new)) w x
      → SameWork size (edit_entries size rows) l.inner x
  passed_same A = same_then S (same_more (edit_entries size rows) (entries_roomy shaped E) A)
