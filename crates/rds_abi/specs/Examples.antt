-- Numbers for C, with their meaning by the definitions: theorems that the checker computes.
pub mod Layouts
