-- How many frames there are after an entry.
use Rattle.std.proofs.Common.{◌≡◌, ◌≤◌, ◌<◌, ◌+◌, ◌∙◌, ℕ, suc, Bool, true, false, cond, max, List, [], ◌∷◌, get_or, set, length, replicate, ap, arith, inl, inr, subst, sym}
use Rattle.std.proofs.lemmas.Bool.{cases_Bool}
use Rattle.std.proofs.lemmas.List.{get_or-replicate, length-replicate}
use Rattle.cargo_lock_graph.specs.Drawing.{is_one_of}
use Rattle.cargo_lock_graph.specs.DrawingMade.{AreMarked}
use Rattle.cargo_lock_graph.specs.WalkState.{HasDrawn}
use Rattle.cargo_lock_graph.proofs.DrawingMade.{marked-again, marked-more}

-- the entry of a node without a mark
pub drawn-new : (marks new : List Bool) (node depth frames : ℕ) → get_or marks node true ≡ false → new ≡ set marks node true → frames ≡ suc depth → HasDrawn marks new node depth frames
drawn-new marks new node depth frames mark is long = record {
  marks = rw mark is;
  frames_are = rw mark (omega (arith, long));
}

-- an entry of a node that has a mark
pub drawn-again : (marks new : List Bool) (node depth frames : ℕ) → get_or marks node true ≡ true → new ≡ marks → frames ≡ depth → HasDrawn marks new node depth frames
drawn-again marks new node depth frames mark is long = record {
  marks = rw mark is;
  frames_are = rw mark (omega (arith, long));
}

-- the same entry, by equal numbers
pub drawn-same : (marks new : List Bool) (node node' depth depth' frames : ℕ) → node' ≡ node → depth' ≡ depth → HasDrawn marks new node depth frames → HasDrawn marks new node' depth' frames
drawn-same marks new node node' depth depth' frames n d h =
    subst (λ m. HasDrawn marks new m depth' frames) (sym n) (subst (λ m. HasDrawn marks new node m frames) (sym d) h)

-- the node of the entry joins those that have marks
pub drawn-marked : (marks new : List Bool) (nodes : List ℕ) (node depth frames : ℕ) → node < length marks → HasDrawn marks new node depth frames → AreMarked marks nodes → AreMarked new (node ∷ nodes)
drawn-marked marks new nodes node depth frames within h marked =
    elim (cases_Bool (get_or marks node true)) [
      | inl t ↦ (let same : new ≡ marks = rw t at h.marks in subst (λ ms. AreMarked ms (node ∷ nodes)) (sym same) (marked-again marks nodes node within t marked))
      | inr f ↦ (let more : new ≡ set marks node true = rw f at h.marks in subst (λ ms. AreMarked ms (node ∷ nodes)) (sym more) (marked-more marks nodes node marked))
    ]

step-by : (seen : Bool) (most depth frames rest whole : ℕ) → frames ≡ depth + cond seen 0 1 → depth ≤ most → max most (max (cond seen 0 (suc depth)) rest) ≡ whole → max (max most frames) rest ≡ whole
step-by true most depth frames rest whole is low all = omega (arith, is, low, all)
step-by false most depth frames rest whole is low all = omega (arith, is, low, all)

-- the greatest number with one more entry drawn
pub frames-step : (marks new : List Bool) (nodes : List ℕ) (node depth frames most more rest whole : ℕ) → node < length marks → AreMarked marks nodes → HasDrawn marks new node depth frames → depth ≤ most → more ≡ max most frames
    → max most (max (cond (is_one_of node nodes) 0 (suc depth)) rest) ≡ whole → max more rest ≡ whole
frames-step marks new nodes node depth frames most more rest whole within marked h low grown all =
    ap (λ n. max n rest) grown
    ∙ step-by (is_one_of node nodes) most depth frames rest whole
    (h.frames_are ∙ ap (λ b. depth + cond b 0 1) (marked node within)) low all

-- ---- the first entry

fresh : (count node : ℕ) → node < count → get_or (replicate count false) node true ≡ false
fresh count node within = get_or-replicate count node false true within

pub marked-start : (count start frames : ℕ) (new : List Bool) → start < count → HasDrawn (replicate count false) new start 0 frames → AreMarked new (start ∷ [])
marked-start count start frames new within h =
    let none : List Bool = replicate count false in
    let long : length none ≡ count = length-replicate count false in
    let bare : AreMarked none [] = λ k low. fresh count k (omega (arith, low, long)) in
    drawn-marked none new [] start 0 frames (omega (arith, within, long)) h bare

pub frames-start : (count start frames most rest whole : ℕ) (new : List Bool) → start < count → HasDrawn (replicate count false) new start 0 frames → most ≡ frames → max 1 rest ≡ whole → max most rest ≡ whole
frames-start count start frames most rest whole new within h is all =
    let one : frames ≡ 1 = h.frames_are ∙ ap (λ b. 0 + cond b 0 1) (fresh count start within) in
    omega (arith, one, is, all)
