-- How many windows both runs asked for: 26 times that many are paid for by 26 (reach + 1) a place of a search, and 4 a place that the marks of
-- the two went on.
use Rattle.rds_pieces.proofs.Names.{common_steps, ◌≡◌, ℕ, ◌+◌, ◌-◌, ◌*◌, ◌≤◌, arith, mul-le, Signal, State, Searching, Locked, RuleNumbers, IsLawful, mark, IsHop}

mul_more : (r n k : ℕ) → r * (n + k) ≡ r * n + r * k
mul_more r n k = grind arith

pub record IsPaid (rules : RuleNumbers) (from a : ℕ) (x : State) (c : ℕ) (y : State) (reads : ℕ) : Type 0 where
  pub searched : ℕ
  pub within : (from + searched ≤ a) × (from + searched ≤ c)
  pub paid : 26 * reads + 8 * from + 100 ≤ 26 * ((rules.reach + 1) * searched) + 4 * mark a x + 4 * mark c y

pub paid_swap : {rules : RuleNumbers} {from a c reads : ℕ} {x y : State} → IsPaid rules from a x c y reads → IsPaid rules from c y a x reads
paid_swap h = grind (arith, common_steps)

-- a guess begins with a search
pub paid_start : (rules : RuleNumbers) (from : ℕ) (s : State) → IsLawful rules from s → IsPaid rules from from s from Searching 0
paid_start rules from s lawful = grind (arith, common_steps)

pub paid_hop : {b : Signal} {rules : RuleNumbers} {from to a c next reads cost : ℕ} (x : State) {y after : State} → IsPaid rules from a x c y reads
    → IsHop b rules x a c to next after cost → IsPaid rules from next after c y (reads + cost)
paid_hop {rules = rules} {a = a} {next = next} Searching h hop =
    let m = hop.moved in
    let f = hop.paid in
    let w = h.within in
    let p = h.paid in
    let more = mul_more (rules.reach + 1) h.searched (next - a) in
    record {
      searched = h.searched + (next - a);
      within = (omega (arith, w, m), omega (arith, w, m, f.0));
      paid = omega (arith, p, more, f.1, f.2);
    }
paid_hop {next = next} (Locked lock) {after = after} h hop = grind (arith, common_steps)

-- so both asked for few, if the two places are at most d after the first
pub paid_most : (rules : RuleNumbers) (from d a : ℕ) (x : State) (c : ℕ) (y : State) (reads : ℕ) → 1 ≤ rules.reach → IsLawful rules a x → IsLawful rules c y
    → a ≤ from + d → c ≤ from + d → IsPaid rules from a x c y reads → reads ≤ (rules.reach + 2) * (d + 1)
paid_most rules from d a x c y reads some one two near_a near_c h = grind (arith, common_steps, mul-le)

-- fewer are paid for too
pub paid_less : {rules : RuleNumbers} {from a c reads fewer : ℕ} {x y : State} → fewer ≤ reads → IsPaid rules from a x c y reads → IsPaid rules from a x c y fewer
paid_less less h = let p = h.paid in record { searched = h.searched; within = h.within; paid = omega (arith, p, less) }
