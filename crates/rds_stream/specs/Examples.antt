-- Worked examples of the definitions: theorems that the checker computes.
pub mod ZeroGroup
pub mod FirstWindows
pub mod RemaindersInPlanes
