-- From the lightest flips of each offset to the nearest block.
use Rattle.rds_soft.proofs.Names.{common_steps, ◌≡◌, ◌≢◌, ℕ, zero, suc, ◌+◌, ◌<◌, ◌≤◌, List, refl, sym, ap, ◌∙◌, arith, bit_xor, min, subst, ◌⊎◌, inl, inr, IsTrue, xor_self, xor_assoc, xor_zero_l, min-le_left, min-le_right, min-eq_left, min-eq_right, cases_lt, cases_eq, false≢true, Offset, C, Cx, Wanted, OnlyC, OnlyCx, Either, rem, word, number, allows, IsLinear, mask_of, weight, Turns, IsNearest, effect, confidence, Leads, AreLightest, of_none, least, lightest, second, IsWalk, turn_to}
use Rattle.rds_soft.{proofs.LightestLemmas.least_small, specs.declared.nearest.Turn.Turn}

-- a xor (a xor b) is b
twice : (a b : ℕ) → bit_xor a (bit_xor a b) ≡ b
twice a b = sym (xor_assoc a a b) ∙ ap (λ (n : ℕ). bit_xor n b) (xor_self a) ∙ xor_zero_l b

-- the lightest flips that turn w into a block with the offset o
abbrev pub TurnTo : ℕ → List ℕ → Offset → ℕ → ℕ → ℕ → Type 0
TurnTo w confidences o flips least others = AreLightest confidences (bit_xor (rem w) (word o)) least flips others

-- the lightest flips that turn w into block x with a wanted offset, and the least weight of any others, each known below 255
pub record AreNearest (w x : ℕ) (wanted : Wanted) (confidences : List ℕ) (o : Offset) (flips least others : ℕ) : Type 0 where
  pub found : least < 255 → Turns w x wanted o flips × (weight confidences flips ≡ least)
  pub none_lighter : (p : Offset) (any : ℕ) → Turns w x wanted p any → least ≤ weight confidences any
  pub others_weigh : (p : Offset) (any : ℕ) → Turns w x wanted p any → any ≢ flips → others ≤ weight confidences any
  pub other : others < 255
      → (p : Offset) × (any : ℕ) × Turns w x wanted p any × (any ≢ flips) × (weight confidences any ≡ others)

-- ---- flips that turn a window have the sum of its remainder and the offset word

pub leads : IsLinear → (w x : ℕ) (wanted : Wanted) (o : Offset) (flips : ℕ) → Turns w x wanted o flips → Leads (bit_xor (rem w) (word o)) flips
leads linear w x wanted o flips h = grind (arith, common_steps, twice)

pub turns : IsLinear → (w x : ℕ) (wanted : Wanted) (o : Offset) (flips : ℕ) → number o ≡ x → IsTrue (allows wanted o)
    → Leads (bit_xor (rem w) (word o)) flips → Turns w x wanted o flips
turns linear w x wanted o flips own allowed h = grind (arith, common_steps, twice)

-- ---- the end of the look back

at_none : (e c : ℕ → ℕ) (s : ℕ) → (least e c 0 s ≡ of_none s) × (lightest e c 0 s ≡ 0) × (second e c 0 s ≡ 255)
unfolding least lightest second
at_none e c s = (refl, refl, refl)

far : (s : ℕ) → s ≢ 0 → of_none s ≡ 255
far zero some = absurd (some refl)
far (suc s) some = refl

module _ (w : ℕ) (cs : List ℕ) (o : Offset) (s left flips spent others : ℕ) (walk : IsWalk effect (confidence cs) s 0 left flips spent others)
    (sum : s ≡ bit_xor (rem w) (word o)) where
  turn_at : ℕ → Turn
  turn_at t = record {
    offset = o;
    flips = lightest effect (confidence cs) 27 t;
    weight = least effect (confidence cs) 27 t;
    others = second effect (confidence cs) 27 t;
  }

  ends : (weight : ℕ) → weight ≡ least effect (confidence cs) 27 s → record { offset = o; flips = flips; weight = weight; others = others } ≡ turn_to w cs o
  unfolding turn_at
  ends weight is =
      let none = at_none effect (confidence cs) left in
      let flips_are : flips ≡ lightest effect (confidence cs) 27 s = omega (arith, walk.flips_are, none.1) in
      let others_are : others ≡ second effect (confidence cs) 27 s = omega (arith, walk.others_are, walk.most, none.2) in
      (λ j. record { offset = o; flips = flips_are j; weight = is j; others = others_are j }) ∙ ap turn_at sum

  -- no sum is left
  pub walk_ends : left ≡ 0 → record { offset = o; flips = flips; weight = spent; others = others } ≡ turn_to w cs o
  walk_ends none = ends spent (omega (arith, walk.weight_is, (at_none effect (confidence cs) left).0, ap of_none none))

  -- a sum is left: no flips known below 255 have it
  pub walk_fails : left ≢ 0 → record { offset = o; flips = flips; weight = 255; others = others } ≡ turn_to w cs o
  walk_fails some = ends 255 (omega (arith, walk.weight_is, (at_none effect (confidence cs) left).0, far left some, least_small effect (confidence cs) 27 s))

-- ---- one offset is wanted

pub only_one : IsLinear → (w x : ℕ) (wanted : Wanted) (confidences : List ℕ) (o : Offset) (flips least others : ℕ)
    → number o ≡ x → IsTrue (allows wanted o) → ((p : Offset) → number p ≡ x → IsTrue (allows wanted p) → p ≡ o)
    → TurnTo w confidences o flips least others → AreNearest w x wanted confidences o flips least others
only_one linear w x wanted confidences o flips least others own allowed alone h =
    let at_o : (p : Offset) (any : ℕ) → Turns w x wanted p any → Leads (bit_xor (rem w) (word o)) any =
    λ p any t. subst (λ (q : Offset). Leads (bit_xor (rem w) (word q)) any) (alone p t.own t.allowed) (leads linear w x wanted p any t) in
    record {
      found = λ near. let f = h.found near in (turns linear w x wanted o flips own allowed f.0, f.1);
      none_lighter = λ p any t. h.none_lighter any (at_o p any t);
      others_weigh = λ p any t apart. h.others_weigh any (at_o p any t) apart;
      other = λ near. let f = h.other near in (o, f.0, turns linear w x wanted o f.0 own allowed f.1, f.2, f.3);
    }

-- ---- two are wanted: the lesser, and the other's best is a rival

pub nearer_of_two : IsLinear → (w x : ℕ) (wanted : Wanted) (confidences : List ℕ) (o q : Offset) (f g a b m n : ℕ)
    → number o ≡ x → IsTrue (allows wanted o) → number q ≡ x → IsTrue (allows wanted q) → word o ≢ word q
    → ((p : Offset) → number p ≡ x → (p ≡ o) ⊎ (p ≡ q))
    → TurnTo w confidences o f a m → TurnTo w confidences q g b n → a ≤ b → AreNearest w x wanted confidences o f a (min m b)
nearer_of_two linear w x wanted confidences o q f g a b m n own allowed own_q allowed_q differ both h k le =
    let at : (p r : Offset) (any : ℕ) → Turns w x wanted p any → p ≡ r → Leads (bit_xor (rem w) (word r)) any =
    λ p r any t same. subst (λ (s : Offset). Leads (bit_xor (rem w) (word s)) any) same (leads linear w x wanted p any t) in
    record {
      found = λ near. let it = h.found near in (turns linear w x wanted o f own allowed it.0, it.1);
      none_lighter = λ p any t. elim (both p t.own) [
        | inl same ↦ h.none_lighter any (at p o any t same)
        | inr same ↦ omega (arith, le, k.none_lighter any (at p q any t same))
      ];
      others_weigh = λ p any t apart. elim (both p t.own) [
        | inl same ↦ omega (arith, min-le_left m b, h.others_weigh any (at p o any t same) apart)
        | inr same ↦ omega (arith, min-le_right m b, k.none_lighter any (at p q any t same))
      ];
      other = λ near. elim (cases_lt b m) [
        | inl less ↦
            let is : min m b ≡ b = min-eq_right (omega (arith, less)) in
            let b_near : b < 255 = omega (arith, near, is) in
            let it = k.found b_near in
            let mine = h.found (omega (arith, le, b_near)) in (
              q,
              g,
              turns linear w x wanted q g own_q allowed_q it.0,
              λ same. differ (sym (twice (rem w) (word o)) ∙ ap (bit_xor (rem w)) (sym mine.0.sum ∙ ap (λ (y : ℕ). rem (mask_of y)) (sym same) ∙ it.0.sum)
                  ∙ twice (rem w) (word q)),
              it.1 ∙ sym is,
            )
        | inr more ↦
            let is : min m b ≡ m = min-eq_left more in
            let it = h.other (omega (arith, near, is)) in
            (o, it.0, turns linear w x wanted o it.0 own allowed it.1, it.2, it.3 ∙ sym is)
      ];
    }

-- ---- within the top and the margin

pub is_nearest : (w x : ℕ) (wanted : Wanted) (confidences : List ℕ) (margin : ℕ) (o : Offset) (flips least others : ℕ)
    → AreNearest w x wanted confidences o flips least others → least ≤ 127 → least + margin ≤ others
    → IsNearest w x wanted confidences margin o flips
is_nearest w x wanted confidences margin o flips least others h near far =
    let it = h.found (omega (arith, near)) in
    record {
      turns = it.0;
      near = omega (arith, it.1, near);
      alone = λ p any t apart. omega (arith, it.1, far, h.others_weigh p any t apart);
    }

pub none_past_top : (w x : ℕ) (wanted : Wanted) (confidences : List ℕ) (margin : ℕ) (o : Offset) (flips least others : ℕ)
    → AreNearest w x wanted confidences o flips least others → 127 < least
    → (p : Offset) (any : ℕ) → IsNearest w x wanted confidences margin p any → ⊥
none_past_top w x wanted confidences margin o flips least others h far p any nearest =
    omega (arith, far, nearest.near, h.none_lighter p any nearest.turns)

pub none_beside : (w x : ℕ) (wanted : Wanted) (confidences : List ℕ) (margin : ℕ) (o : Offset) (flips least others : ℕ)
    → AreNearest w x wanted confidences o flips least others → margin ≤ 127 → least ≤ 127 → others < least + margin
    → (p : Offset) (any : ℕ) → IsNearest w x wanted confidences margin p any → ⊥
none_beside w x wanted confidences margin o flips least others h few near close p any nearest =
    let rival = h.other (omega (arith, few, near, close)) in
    let it = h.found (omega (arith, near)) in
    let rival_least : least ≤ others = omega (arith, h.none_lighter rival.0 rival.1 rival.2, rival.4) in
    elim (cases_eq any flips) [
      | inl same ↦
          let far = nearest.alone rival.0 rival.1 rival.2 (λ is. rival.3 (is ∙ same)) in
          omega (arith, ap (weight confidences) same, it.1, close, rival.4, far)
      | inr apart ↦
          let far = nearest.alone o flips it.0 (λ is. apart (sym is)) in
          omega (arith, close, rival_least, it.1, far, h.others_weigh p any nearest.turns apart)
    ]

-- ---- which offsets are wanted

pub only : (o p : Offset) → number p ≡ number o → number o ≢ 3 → p ≡ o
only o p own apart = grind (arith, common_steps)

pub allowed : (wanted : Wanted) (o : Offset) → number o ≢ 3 → IsTrue (allows wanted o)
allowed wanted o apart = grind (arith, common_steps)

pub only_C : (p : Offset) → number p ≡ 3 → IsTrue (allows OnlyC p) → p ≡ C
only_C p own allowed = grind (arith, common_steps, false≢true)

pub only_Cx : (p : Offset) → number p ≡ 3 → IsTrue (allows OnlyCx p) → p ≡ Cx
only_Cx p own allowed = grind (arith, common_steps, false≢true)

pub C_or_Cx : (p : Offset) → number p ≡ 3 → (p ≡ C) ⊎ (p ≡ Cx)
C_or_Cx p own = grind (arith, common_steps)

pub word_small : (o : Offset) → word o < 1024
word_small o = grind (arith, common_steps)

-- ---- block 3 of either version

pub nearer_C : IsLinear → (w : ℕ) (confidences : List ℕ) (f g a b m n : ℕ) → TurnTo w confidences C f a m
    → TurnTo w confidences Cx g b n → a ≤ b → AreNearest w 3 Either confidences C f a (min m b)
nearer_C linear w confidences f g a b m n h k le =
    nearer_of_two linear w 3 Either confidences C Cx f g a b m n refl refl refl refl (λ same. absurd (omega (arith, same))) C_or_Cx h k le

pub nearer_Cx : IsLinear → (w : ℕ) (confidences : List ℕ) (f g a b m n : ℕ) → TurnTo w confidences C f a m
    → TurnTo w confidences Cx g b n → b ≤ a → AreNearest w 3 Either confidences Cx g b (min n a)
nearer_Cx linear w confidences f g a b m n h k le =
    nearer_of_two linear w 3 Either confidences Cx C g f b a n m refl refl refl refl (λ same. absurd (omega (arith, same)))
    (λ p own. elim (C_or_Cx p own) [ inl same ↦ inr same | inr same ↦ inl same ]) k h le
