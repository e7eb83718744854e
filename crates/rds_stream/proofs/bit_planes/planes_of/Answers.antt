use Rattle.rds_stream.proofs.Names.{◌/◌, ◌^◌, ◌∙◌, sym, ap, subst, bit_xor, get_or, ap₂}
use Rattle.rds_stream.proofs.RemainderBits.{Sums, shows, in_lane, plane_0, plane_1, plane_2, plane_3, plane_4, plane_5, plane_6, plane_7, plane_8, plane_9}
use Rattle.rds_stream.proofs.bit_planes.planes_of.Goals as goal

pub returns : goal.returns
returns c j r k block l inside window =
    let linear = c.remainders_are_linear.ensures in
    let x = get_or c.args.places j 0 in
    let pairs = c.sum-pairs.ensures.each j l ∙ ap (bit_xor x) (c.from_on.ensures.each j l) in
    let fours = c.sum-fours.ensures.each j l ∙ ap₂ bit_xor pairs (c.from_on-2.ensures.each j l ∙ ap (λ y. y / 2 ^ 2) pairs) in
    let fives = c.sum-fives.ensures.each j l ∙ ap₂ bit_xor fours (c.from_on-3.ensures.each j l) in
    let tens = c.sum-tens.ensures.each j l ∙ ap₂ bit_xor fives (c.from_on-4.ensures.each j l ∙ ap (λ y. y / 2 ^ 9) fives) in
    let before = c.sum.ensures.each j l ∙ ap₂ bit_xor tens (c.from_on-5.ensures.each j l) in
    let nine = c.from_on-nine.ensures.each j l ∙ ap (λ y. y / 2) before in
    let q = get_or c.from_on-nine.result j 0 in
    let s9 = subst (Sums x 9) (sym nine) (plane_9 x) in
    let both = c.sum-both.ensures.each j l in
    let s8 = subst (Sums x 8) (sym (c.from_on-eight.ensures.each j l)) (plane_8 x q s9) in
    let s7 = subst (Sums x 7) (sym (c.sum-seven.ensures.each j l ∙ ap (λ y. bit_xor y q) (c.from_on-6.ensures.each j l))) (plane_7 x q (get_or c.from_on-eight.result j 0) s9 s8) in
    let s6 = subst (Sums x 6) (sym (c.sum-six.ensures.each j l ∙ ap₂ bit_xor (c.from_on-7.ensures.each j l) both)) (plane_6 x q (get_or c.sum-seven.result j 0) s9 s7) in
    let s5 = subst (Sums x 5) (sym (c.sum-five.ensures.each j l ∙ ap (λ y. bit_xor y x) (c.from_on-8.ensures.each j l))) (plane_5 x q (get_or c.sum-six.result j 0) s9 s6) in
    let s4 = subst (Sums x 4) (sym (c.sum-four.ensures.each j l ∙ ap₂ bit_xor (c.from_on-9.ensures.each j l) both)) (plane_4 x q (get_or c.sum-five.result j 0) s9 s5) in
    let s3 = subst (Sums x 3) (sym (c.sum-three.ensures.each j l ∙ ap (λ y. bit_xor y q) (c.from_on-10.ensures.each j l))) (plane_3 x q (get_or c.sum-four.result j 0) s9 s4) in
    let s2 = subst (Sums x 2) (sym (c.sum-two.ensures.each j l ∙ ap₂ bit_xor (c.from_on-11.ensures.each j l) both)) (plane_2 x q (get_or c.sum-three.result j 0) s9 s3) in
    let s1 = subst (Sums x 1) (sym (c.sum-one.ensures.each j l ∙ ap (λ y. bit_xor y x) (c.from_on-12.ensures.each j l))) (plane_1 x q (get_or c.sum-two.result j 0) s9 s2) in
    let s0 = subst (Sums x 0) (sym (c.sum-zero.ensures.each j l ∙ ap (λ y. bit_xor y x) (c.from_on-13.ensures.each j l))) (plane_0 x q (get_or c.sum-one.result j 0) s9 s1) in
    in_lane j k block _ _ _ _ _ _ _ _ _ _
    (shows linear x 0 _ k block s0 window)
    (shows linear x 1 _ k block s1 window)
    (shows linear x 2 _ k block s2 window)
    (shows linear x 3 _ k block s3 window)
    (shows linear x 4 _ k block s4 window)
    (shows linear x 5 _ k block s5 window)
    (shows linear x 6 _ k block s6 window)
    (shows linear x 7 _ k block s7 window)
    (shows linear x 8 _ k block s8 window)
    (shows linear x 9 _ k block s9 window)
    r inside
