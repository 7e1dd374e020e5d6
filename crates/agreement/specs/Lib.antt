-- What it means to judge facts: agreement, the first two that agree, and what a verdict tells.
pub mod Agreement
pub mod Search
pub mod Verdicts
pub mod Demand
