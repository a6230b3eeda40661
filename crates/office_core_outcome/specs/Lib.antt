pub mod Hints
pub mod NextRun
pub mod WhyRefused
pub mod Trial
pub mod NoCandidate
pub mod Proposal
pub mod HintTold
pub mod steps
